use Rattle.gf_tree.proofs.lemmas.stores.NodeParts.{kept_there}

pub returns-clause-kept : Rattle.gf_tree.proofs.game.Game.kept.Goals.returns-clause-kept
returns-clause-kept c =
    kept_there _ c.self.inside.nodes.items c.args.self.now c.args.at c.index.result.now
    c.self.invariant.nodes_are c.self.view_is c.requires c.index.ensures
