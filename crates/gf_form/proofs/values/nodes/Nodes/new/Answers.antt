use Rattle.gf_form.proofs.Common.{length-append, length, arith, ◌∷◌, ◌≡◌, [], ap}
use Rattle.gf_form.proofs.lemmas.values.Walks.{list_more, sizes_fall}
use Rattle.gf_form.proofs.values.nodes.Nodes.new.Goals as goal

pub loop-branches-smaller : goal.loop-branches-smaller
loop-branches-smaller c =
    let old = c.loop-branches.firsts.items in
    sizes_fall c.args.game.now c.loop-branches.branches.items c.push_children.new.branches.items old
    c.index-node.result.now (grind arith) (grind arith) c.in_ok-push_children.ensures.trees
    c.push-in-loop-branches.new.self.items
    (omega (
      arith,
      ap length c.in_ok-push-2.ensures.items,
      length-append old (c.len-in-loop-branches-3.result ∷ []),
    ))

pub loop-branches-preserved : goal.loop-branches-preserved
loop-branches-preserved c =
    let more = list_more c.args.game.now c.loop-branches.branches.items
    c.push_children.new.branches.items c.loop-branches.firsts.items c.index-node.result.now
    (grind arith) (grind arith) c.in_ok-push_children.ensures.trees
    c.in_ok-push_children.ensures.games c.loop-branches.invariant in
    let long : c.len-in-loop-branches-3.result ≡ length c.loop-branches.branches.items = grind arith in
    rw (c.in_ok-push-2.ensures.items, long) more
