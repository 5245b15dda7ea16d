use Rattle.gf_tree.proofs.lemmas.games.Renumbered.{renumbered_is_game}

pub returns-clause-is_game : Rattle.gf_tree.proofs.laws.new_numbers.Goals.returns-clause-is_game
returns-clause-is_game c = renumbered_is_game
