use Rattle.gf_canon.proofs.lemmas.sameness.ComparedTrees.{tree_is_held}
use Rattle.gf_canon.proofs.sameness.same_as.Goals as goal

pub same_as_tree-requires-clause-game : goal.same_as_tree-requires-clause-game
same_as_tree-requires-clause-game c =
    (tree_is_held c.requires.spelled.0 c.args.first.now c.in-Tree.game c.in-Tree.is
    c.requires.spelled.1).0

pub same_as_tree-requires-clause-spellable : goal.same_as_tree-requires-clause-spellable
same_as_tree-requires-clause-spellable c =
    (tree_is_held c.requires.spelled.0 c.args.first.now c.in-Tree.game c.in-Tree.is
    c.requires.spelled.1).1
