use Rattle.gf_tree.proofs.Common.{ap, Game}
use Rattle.gf_tree.proofs.lemmas.stores.GameNodes.{IsTreeOf, sizes_beside}
use Rattle.gf_tree.proofs.lemmas.stores.NodeParts.{begin_here}
use Rattle.gf_tree.proofs.game.Game.place_after.Goals as goal

pub skip-requires-clause-trees : goal.skip-requires-clause-trees
skip-requires-clause-trees c =
    let tree : IsTreeOf c.self.inside.parts.sets.known c.self.inside.parts.outcomes.known
    c.self.inside.nodes.items c.args.self.now.tree =
    record { are = c.self.invariant.nodes_are; is = ap (λ (g : Game). g.tree) c.self.view_is } in
    rw (c.deref.ensures.value, sizes_beside tree)
    (begin_here c.args.self.now.tree c.args.at c.requires)
