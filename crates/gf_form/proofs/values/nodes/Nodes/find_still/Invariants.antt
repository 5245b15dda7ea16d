use Rattle.gf_form.proofs.Common.{AreNodesOf, length, ◌≡◌}
use Rattle.gf_form.proofs.values.nodes.Nodes.find_still.Given as goal

abbrev pub invariant-loop-node : goal.invariant-loop-node
invariant-loop-node l = AreNodesOf l.game l.self
    × (length l.self.branches.items ≡ l.count) × (length l.self.still.items ≡ l.count)
