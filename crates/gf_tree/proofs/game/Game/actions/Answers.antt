use Rattle.gf_tree.proofs.lemmas.stores.NodeParts.{actions_there, set_below, set_is}
use Rattle.gf_tree.proofs.lemmas.stores.Places.{at_index}
use Rattle.gf_tree.proofs.lemmas.games.Members.{something_there}
use Rattle.gf_tree.proofs.Common.{arith}

pub returns : Rattle.gf_tree.proofs.game.Game.actions.Goals.returns
returns c =
    grind (arith, something_there, set_below, set_is, at_index, actions_there)
