use Rattle.gf_tree.proofs.lemmas.stores.NodeParts.{outcome_position}

pub returns : Rattle.gf_tree.proofs.game.Game.outcome_position.Goals.returns
returns c = outcome_position _ _ _ c.kept.ensures.kept c.kept.ensures.is_game
