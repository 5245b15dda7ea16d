use Rattle.gf_tree.proofs.Common.{arith, drop_of_length-le}
use Rattle.gf_tree.proofs.lemmas.stores.GameNodes.{nodes_counted}
use Rattle.gf_tree.proofs.game.nodes.NodesIterator.next.Goals as goal

pub returns-then-self-len-clause-steps : goal.returns-then-self-len-clause-steps
returns-then-self-len-clause-steps c =
    grind (arith, drop_of_length-le, nodes_counted)
