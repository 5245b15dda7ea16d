use Rattle.gf_tree.proofs.Common.{tree_with}
use Rattle.gf_tree.proofs.lemmas.stores.GameNodes.{made_held, shaped}
use Rattle.gf_tree.proofs.game.Game.new.Goals as goal

pub sized-nodes-requires-clause-tree : goal.sized-nodes-requires-clause-tree
sized-nodes-requires-clause-tree c = (
  tree_with c.args.parts.sets.known c.args.parts.outcomes.known c.args.nodes,
  shaped _ _ _ c.requires.fills,
)

pub invariant_of-result : goal.invariant_of-result
invariant_of-result c =
    made_held _ c.args.nodes c.sized-nodes.result.items c.sized-nodes.ensures.kept c.requires
    (c.sized-nodes.ensures.sizes _ (shaped _ _ _ c.requires.fills))
