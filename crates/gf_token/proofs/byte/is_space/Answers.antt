use Rattle.std.proofs.Common.{arith, refl, nat_eq, get_or}
use Rattle.std.proofs.lemmas.Bool.{agree_below_at}
use Rattle.gf_token.specs.Byte.{is_space}
use Rattle.gf_token.specs.declared.byte.TheConstants.{CLASSES}

pub returns : Rattle.gf_token.proofs.byte.is_space.Goals.returns
returns c =
    agree_below_at (λ b. nat_eq (get_or CLASSES b 0) 115) is_space 256 c.args.byte refl
    (omega arith)
