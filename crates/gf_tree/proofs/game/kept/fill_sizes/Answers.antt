use Rattle.gf_tree.proofs.Common.{sizes_of, arith, ◌-◌}
use Rattle.std.proofs.Math.ListN.{length-set}
use Rattle.std.proofs.Math.Seq.{map-set_same}
use Rattle.gf_tree.proofs.lemmas.stores.KeptSizes.{filled_more, set_placed}
use Rattle.gf_tree.proofs.game.kept.fill_sizes.Goals as goal

pub child_count-children-requires : goal.child_count-children-requires
child_count-children-requires c =
    set_placed c.args.nodes.now c.loop-at.nodes _ _ (c.loop-at.at - 1) c.index-nodes-at.result
    (omega (arith, c.loop-at.invariant.0, c.loop-at-test.true)) c.loop-at.invariant.1
    c.requires.placed.1

pub loop-at-preserved : goal.loop-at-preserved
loop-at-preserved c = grind (arith, sizes_of, length-set, map-set_same, filled_more)
