use Rattle.gf_form.proofs.Common.{Node, Some, Tree, child_trees, slice_get, ◌<◌, ◌≡◌, ℕ}
use Rattle.gf_form.specs.inner.values.Still.{IsStill}
use Rattle.gf_form.specs.inner.values.ValueLeft.{tree_there}
use Rattle.gf_form.proofs.values.walk.Walk.is_still.Given as goal

abbrev pub invariant-loop-before : goal.invariant-loop-before
invariant-loop-before l = (k : ℕ) (child : Tree Node) → k < l.before
    → slice_get (child_trees (tree_there l.self l.node)) k ≡ Some child
    → IsStill l.self.game.now child
