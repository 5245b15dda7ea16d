use Rattle.gf_tree.proofs.Common.{length-drop, arith}
use Rattle.gf_tree.proofs.lemmas.stores.GameNodes.{nodes_counted}

pub returns : Rattle.gf_tree.proofs.game.nodes.NodesExactSizeIterator.len.Goals.returns
returns c = grind (arith, nodes_counted, length-drop)
