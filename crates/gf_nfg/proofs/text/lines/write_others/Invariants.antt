use Rattle.gf_nfg.proofs.Common.{◌≡◌, ◌+◌, ◌*◌, ◌++◌, ◌≤◌, drop, vec_len, Keeps}
use Rattle.std.specs.Prelude.{vec_capacity}
use Rattle.gf_nfg.proofs.lemmas.texts.Pieces.{payoffs_rest}
use Rattle.gf_nfg.proofs.text.lines.write_others.Given as goal

abbrev pub invariant-loop-payoff : goal.invariant-loop-payoff
invariant-loop-payoff l = record {
  text : l.out.items ++ payoffs_rest (drop l.payoff-index l.payoffs)
      ≡ l.initial.out.items ++ payoffs_rest l.payoffs;
  kept : Keeps l.fn.out.items l.out.items;
  grown : vec_len l.out ≤ vec_len l.initial.out + 81 * l.payoff-index;
  room : vec_capacity l.initial.out ≤ vec_capacity l.out;
}
