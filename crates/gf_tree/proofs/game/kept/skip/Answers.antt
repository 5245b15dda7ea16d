use Rattle.gf_tree.proofs.Common.{◌∙◌, arith}
use Rattle.gf_tree.proofs.lemmas.stores.KeptSizes.{skips_node}

pub overflow_add-at : Rattle.gf_tree.proofs.game.kept.skip.Goals.overflow_add-at
overflow_add-at c =
    let nodes = c.args.nodes.now in
    let r = skips_node nodes c.loop-left.at c.loop-left.left c.index-nodes-at.result
    c.loop-left-test.true c.loop-left.invariant.1 in
    omega (arith, r.0)

pub loop-left-preserved : Rattle.gf_tree.proofs.game.kept.skip.Goals.loop-left-preserved
loop-left-preserved c =
    let nodes = c.args.nodes.now in
    let r = skips_node nodes c.loop-left.at c.loop-left.left c.index-nodes-at.result
    c.loop-left-test.true c.loop-left.invariant.1 in
    (r.0, r.1, r.2 ∙ c.loop-left.invariant.2)
