use Rattle.gf_form.proofs.Common.{tree_of, length, drop, map}
use Rattle.gf_form.proofs.lemmas.values.Walks.{AreListed, sizes}
use Rattle.gf_form.proofs.values.nodes.Nodes.new.Given as goal

abbrev pub invariant-loop-branches : goal.invariant-loop-branches
invariant-loop-branches l = AreListed l.game l.branches.items l.firsts.items

abbrev pub decreases-loop-branches : goal.decreases-loop-branches
decreases-loop-branches l = sizes (drop (length l.firsts.items) (map tree_of l.branches.items))
