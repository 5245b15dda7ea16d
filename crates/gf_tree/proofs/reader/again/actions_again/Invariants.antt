use Rattle.gf_tree.proofs.Common.{◌≡◌, ◌≤◌, length, drop, actions_of, heard, Begun, Content}
use Rattle.gf_tree.proofs.Common.{KnownSetOpening, KnownAction}
use Rattle.gf_tree.proofs.reader.again.actions_again.Given as goal

abbrev pub invariant-loop-action : goal.invariant-loop-action
invariant-loop-action l = record {
  goes : (c : Content) (b : Begun) → heard (KnownSetOpening b (actions_of l.actions)) c l.fn.tokens
      ≡ heard (KnownAction b (actions_of (drop l.action-index l.actions))) c l.tokens;
  shorter : length l.tokens.ahead ≤ length l.fn.tokens.ahead;
}
