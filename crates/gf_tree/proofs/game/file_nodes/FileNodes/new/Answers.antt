use Rattle.gf_tree.proofs.Common.{map, no_node, entries_with, kept_of}
use Rattle.std.specs.Slice.Iter.{iter_rest}
use Rattle.gf_tree.proofs.lemmas.stores.GameNodes.{flatten_grown}
use Rattle.gf_tree.proofs.lemmas.reader.ToldNodes.{nodes_told}

pub returns : Rattle.gf_tree.proofs.game.file_nodes.FileNodes.new.Goals.returns
returns c =
    cc (nodes_told _ c.requires.is_game c.args.numbering (map kept_of (iter_rest c.args.nodes))
    (flatten_grown no_node (entries_with c.args.parts.now.sets.known c.args.parts.now.outcomes.known
    (map kept_of (iter_rest c.args.nodes))) c.requires.fills) c.requires.placed)
