use Rattle.gf_token.proofs.Steps.{range_more, lex_more, no_close, goes_on, closes}
use Rattle.std.proofs.Common.{append_assoc, arith}
use Rattle.gf_token.proofs.scan.long_text_end.Goals as goal
use Rattle.gf_token.proofs.scan.long_text_end.Goals.{
  else-input-at-eq34-via-then-input-at-eq34+else-input-at-ne92,
}

pub returns-then-input-at-ne92 : goal.returns-then-input-at-ne92
returns-then-input-at-ne92 c =
    closes c.args.input.now c.args.start c.loop-at.at
    (omega arith) c.if-input-at-eq34.true c.if-input-at-ne92.true c.loop-at.invariant.open_text

pub loop-at-preserved : goal.loop-at-preserved
loop-at-preserved c = grind (arith, no_close, range_more, lex_more, append_assoc, goes_on)
