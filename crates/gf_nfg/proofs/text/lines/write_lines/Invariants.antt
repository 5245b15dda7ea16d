use Rattle.gf_nfg.proofs.Common.{◌≡◌, ◌++◌, ◌≤◌, Keeps}
use Rattle.std.specs.Prelude.{vec_capacity}
use Rattle.gf_nfg.specs.inner.TextParts.{EndsWithLine, lines_rest}
use Rattle.gf_nfg.proofs.text.lines.write_lines.Given as goal

abbrev pub invariant-loop-place : goal.invariant-loop-place
invariant-loop-place l = record {
  text : l.out.items ++ lines_rest l.rows l.place ≡ l.initial.out.items ++ lines_rest l.rows l.from;
  line : EndsWithLine l.before l.start l.out.items;
  kept : Keeps l.fn.out.items l.out.items;
  room : vec_capacity l.initial.out ≤ vec_capacity l.out;
}
