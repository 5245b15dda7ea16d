use Rattle.gf_nfg.proofs.Common.{arith, common_steps}
use Rattle.gf_nfg.proofs.lemmas.texts.Pieces.{row_begun, row_written}
use Rattle.gf_nfg.proofs.text.lines.write_lines.Goals as goal

pub loop-place-preserved : goal.loop-place-preserved
loop-place-preserved c = record {
  text = row_written c.args.rows.now c.loop-place.place _ _ _ _ (search arith)
      c.in_ok-write_next.ensures.text c.loop-place.invariant.text;
  line = grind (arith, common_steps, row_begun);
  kept = grind (arith, common_steps);
  room = omega (arith, c.in_ok-write_next.ensures.capacity, c.loop-place.invariant.room);
}
