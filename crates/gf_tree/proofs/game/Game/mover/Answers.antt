use Rattle.gf_tree.proofs.Common.{arith}
use Rattle.gf_tree.proofs.lemmas.stores.NodeParts.{is_mover, set_below}
use Rattle.gf_tree.proofs.game.Game.mover.Goals as goal

pub key-player-requires : goal.key-player-requires
key-player-requires c = grind (arith, set_below)

pub first_use_number-requires : goal.first_use_number-requires
first_use_number-requires c = grind (arith, set_below)

pub returns-clause-mover : goal.returns-clause-mover
returns-clause-mover c = grind (arith, is_mover)
