use Rattle.gf_nfg.proofs.Common.{◌≡◌, ◌+◌, ◌++◌, ◌≤◌, drop, length, vec_len, lines_with}
use Rattle.std.specs.Prelude.{vec_capacity}
use Rattle.gf_nfg.proofs.text.lines.Lines.append_until.Given as goal

abbrev pub invariant-loop-place : goal.invariant-loop-place
invariant-loop-place l = record {
  text : l.out.items ++ lines_with l.self (drop l.place l.numbers)
      ≡ l.initial.out.items ++ lines_with l.self l.numbers;
  room : vec_len l.out + length (lines_with l.self (drop l.place l.numbers)) ≤ vec_capacity l.out;
}
