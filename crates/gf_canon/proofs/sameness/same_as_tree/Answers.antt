use Rattle.gf_canon.proofs.Common.{extensive, strategic}
use Rattle.gf_canon.proofs.lemmas.sameness.ComparedTrees.{no_table, same_as_told}
use Rattle.gf_canon.proofs.sameness.same_as_tree.Goals as goal

pub returns-in-Tree-clause-same : goal.returns-in-Tree-clause-same
returns-in-Tree-clause-same c =
    let t = rw c.in-Tree.is at c.in_ok-tell_file.ensures.told in
    let new = c.new-comparison in (
      extensive t.0,
      record { spelled = t.1; within = tt },
      same_as_told c.args.names c.args.g.now t.0 c.args.b.now c.requires.game c.requires.spellable
          t.1 _ _ _ t.2.told _ _ new.ensures.names new.ensures.game t.2.holding.1 t.2.nodes
          c.is_same.ensures,
    )

pub returns-in-Strategic-clause-same : goal.returns-in-Strategic-clause-same
returns-in-Strategic-clause-same c =
    let t = rw c.in-Strategic.is at c.in_ok-tell_file.ensures.told in (
      strategic t.0,
      record { spelled = t.1; within = t.2 },
      no_table c.args.names c.args.g.now t.0,
    )
