use Rattle.gf_form.proofs.Common.{AreNodesOf, Game, length, ◌≡◌}
use Rattle.gf_form.proofs.values.nodes.Nodes.keep.Given as goal

abbrev pub invariant-loop-before : goal.invariant-loop-before
invariant-loop-before l = (l.self.branches ≡ l.fn.self.branches)
    × (length l.self.still.items ≡ length l.fn.self.still.items)
    × ((g : Game) → AreNodesOf g l.fn.self → AreNodesOf g l.self)
