use Rattle.gf_tree.proofs.Common.{◌≡◌, ◌≤◌, length, drop, false, Content, heard, KnownOutcomeOpening}
use Rattle.gf_tree.proofs.Common.{KnownPayoff}
use Rattle.gf_tree.proofs.reader.again.payoffs_again.Given as goal

abbrev pub invariant-loop-payoff : goal.invariant-loop-payoff
invariant-loop-payoff l = record {
  goes : (c : Content) → heard (KnownOutcomeOpening l.payoffs) c l.fn.tokens
      ≡ heard (KnownPayoff false (drop l.payoff-index l.payoffs)) c l.tokens;
  shorter : length l.tokens.ahead ≤ length l.fn.tokens.ahead;
}
