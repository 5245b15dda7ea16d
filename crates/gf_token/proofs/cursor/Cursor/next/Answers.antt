use Rattle.std.proofs.Common.{arith}
use Rattle.gf_token.proofs.TokensAhead.{ahead_after}

pub invariant_of-self : Rattle.gf_token.proofs.cursor.Cursor.next.Goals.invariant_of-self
invariant_of-self c = grind (arith, ahead_after)
