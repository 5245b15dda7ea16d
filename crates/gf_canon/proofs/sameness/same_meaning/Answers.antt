use Rattle.gf_canon.proofs.sameness.same_meaning.Goals as goal

pub returns-in-Table-Table : goal.returns-in-Table-Table
returns-in-Table-Table c = rw (c.in-Table-Table.is-0, c.in-Table-Table.is-1) c.same_tables.ensures
