use Rattle.gf_tree.proofs.Common.{arith}
use Rattle.gf_tree.proofs.lemmas.stores.SetsStored.{within}
use Rattle.gf_tree.proofs.game.sets.stretch_like.Goals as goal

pub slice_bounds-same_actions-start-in-Some-get_index
    : goal.slice_bounds-same_actions-start-in-Some-get_index
slice_bounds-same_actions-start-in-Some-get_index c = grind (arith, within)

pub slice_bounds-same_actions-end-in-Some-get_index
    : goal.slice_bounds-same_actions-end-in-Some-get_index
slice_bounds-same_actions-end-in-Some-get_index c = grind (arith, within)
