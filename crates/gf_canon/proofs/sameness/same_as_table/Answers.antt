use Rattle.gf_canon.proofs.Common.{extensive, strategic, Err, Bool}
use Rattle.gf_canon.proofs.lemmas.files.Refused.{refused_game, refused_table}
use Rattle.gf_canon.proofs.lemmas.sameness.ComparedTrees.{no_game, same_as_table}
use Rattle.gf_canon.proofs.sameness.same_as_table.Goals as goal

pub returns-in-Ok-clause-same : goal.returns-in-Ok-clause-same
returns-in-Ok-clause-same c =
    same_as_table c.args.names c.args.t.now c.args.b.now c.in-Ok.answer c.in-Ok.ensures.same

pub returns-in-Err-Refused-clause-refused : goal.returns-in-Err-Refused-clause-refused
returns-in-Err-Refused-clause-refused c = λ a h.
    let not_compared = rw c.in-Err-Refused.field-0-is at c.in-Err-Refused.ensures.refused in (
      h,
      refused_table {A = Bool} c.args.b.now (Err c.in-Err-Refused.fault) c.in-Ok-Strategic.field-0
          c.in-Ok-Strategic.field-0-is c.in-Ok-Strategic.ensures.named not_compared.0,
    )

pub returns-in-Err-Memory-clause-refused : goal.returns-in-Err-Memory-clause-refused
returns-in-Err-Memory-clause-refused c = λ a h.
    let (u, spelled, within) = rw c.in-Err-Memory.field-0-is at c.in-Err-Memory.ensures.refused in
    (h, (strategic u, record { spelled = spelled; within = within }))

pub returns-in-Ok-tell_efg-clause-same : goal.returns-in-Ok-tell_efg-clause-same
returns-in-Ok-tell_efg-clause-same c =
    let t = c.in-Ok-tell_efg.ensures.told in
    (extensive t.0, record { spelled = t.1; within = tt }, no_game c.args.names c.args.t.now t.0)

pub returns-in-Err-tell_efg-clause-refused : goal.returns-in-Err-tell_efg-clause-refused
returns-in-Err-tell_efg-clause-refused c = λ a h. (
  h,
  refused_game {A = Bool} c.args.b.now (Err c.in-Err-tell_efg.fault) c.in-Ok-Tree.field-0
      c.in-Ok-Tree.field-0-is c.in-Ok-Tree.ensures.named c.in-Err-tell_efg.ensures.judged,
)

pub returns-in-Err-clause-refused : goal.returns-in-Err-clause-refused
returns-in-Err-clause-refused c = λ a h.
    (h, c.in-Err.ensures.refused)
