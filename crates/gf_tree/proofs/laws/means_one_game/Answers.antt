use Rattle.gf_tree.proofs.lemmas.games.TreesOnce.{one_file_tree, means_one_game, spells_one_game}
use Rattle.gf_tree.proofs.laws.means_one_game.Goals as goal

pub returns-clause-of_trees : goal.returns-clause-of_trees
returns-clause-of_trees c = one_file_tree

pub returns-clause-of_tokens : goal.returns-clause-of_tokens
returns-clause-of_tokens c = means_one_game

pub returns-clause-of_bytes : goal.returns-clause-of_bytes
returns-clause-of_bytes c = spells_one_game
