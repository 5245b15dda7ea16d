use Rattle.gf_token.proofs.Steps.{range_none, lex_more, closes}
use Rattle.std.proofs.Common.{get_or, arith}
use Rattle.gf_token.proofs.scan.closing_quote.Goals as goal

pub returns-then-input-first-eq34 : goal.returns-then-input-first-eq34
returns-then-input-first-eq34 c =
    grind (arith, get_or, closes, lex_more, range_none)
