use Rattle.gf_tree.proofs.Common.{arith, length-map}
use Rattle.gf_token.proofs.Offered.{index_read}
use Rattle.gf_tree.proofs.lemmas.reader.Steps.{player_again, player_unknown, taken}
use Rattle.gf_tree.proofs.reader.Reader.player.Goals as goal

pub returns-then-number-len-clause-machine : goal.returns-then-number-len-clause-machine
returns-then-number-len-clause-machine c =
    grind (arith, index_read, length-map, player_unknown, taken)

pub returns-clause-machine : goal.returns-clause-machine
returns-clause-machine c =
    grind (arith, index_read, length-map, player_again, taken)
