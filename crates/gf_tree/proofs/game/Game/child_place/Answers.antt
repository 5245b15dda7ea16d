use Rattle.gf_tree.proofs.Common.{◌+◌, ◌∙◌, List, ap, drop, slice_get, sizes_of, skipped, subtrees}
use Rattle.gf_tree.proofs.Common.{Game, Stored}
use Rattle.gf_tree.proofs.lemmas.stores.GameNodes.{child_there}
use Rattle.gf_tree.proofs.game.Game.child_place.Goals as goal

pub skip-requires-clause-trees : goal.skip-requires-clause-trees
skip-requires-clause-trees c =
    let there = child_there
    (record { are = c.self.invariant.nodes_are; is = ap (λ (g : Game). g.tree) c.self.view_is })
    c.args.at c.args.child c.requires.node c.requires.child in
    rw c.deref.ensures.value there.0

pub returns : goal.returns
returns c =
    let there = child_there
    (record { are = c.self.invariant.nodes_are; is = ap (λ (g : Game). g.tree) c.self.view_is })
    c.args.at c.args.child c.requires.node c.requires.child in
    let place = c.skip.ensures.place ∙ ap (λ (ns : List Stored). c.args.at + 1
    + skipped c.args.child (drop (c.args.at + 1) (sizes_of ns))) c.deref.ensures.value in
    ap (slice_get (subtrees c.args.self.now.tree)) place ∙ there.1
