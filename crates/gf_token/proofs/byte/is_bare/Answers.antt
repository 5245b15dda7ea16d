use Rattle.std.proofs.Common.{arith, refl, nat_eq, get_or}
use Rattle.std.proofs.lemmas.Bool.{agree_below_at}
use Rattle.gf_token.specs.Byte.{is_bare}
use Rattle.gf_token.specs.declared.byte.TheConstants.{CLASSES}

pub returns-else-matches : Rattle.gf_token.proofs.byte.is_bare.Goals.returns-else-matches
returns-else-matches c =
    agree_below_at (λ b. nat_eq (get_or CLASSES b 0) 46) is_bare 256 c.args.byte refl (omega arith)
