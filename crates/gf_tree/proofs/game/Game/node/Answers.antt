use Rattle.gf_tree.proofs.Common.{arith}
use Rattle.gf_tree.proofs.lemmas.games.Uses.{all_of_each, each}
use Rattle.gf_tree.proofs.game.Game.node.Goals as goal

pub step-requires : goal.step-requires
step-requires c = grind arith

pub outcome_number-requires-clause-within : goal.outcome_number-requires-clause-within
outcome_number-requires-clause-within c = grind arith

pub outcome_number-requires-clause-positive : goal.outcome_number-requires-clause-positive
outcome_number-requires-clause-positive c = grind (arith, all_of_each, each)

pub returns : goal.returns
returns c = grind arith
