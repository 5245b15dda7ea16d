use Rattle.gf_tree.proofs.lemmas.games.Learned.{game_learned_once}

pub returns : Rattle.gf_tree.proofs.laws.game_learned_once.Goals.returns
returns c = game_learned_once
