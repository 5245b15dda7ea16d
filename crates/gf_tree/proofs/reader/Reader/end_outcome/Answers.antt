use Rattle.gf_tree.proofs.Common.{Some, ap, arith, length, refl, rules, sym, label_of, outcome_with}
use Rattle.gf_tree.proofs.Common.{with_node, with_outcome, NodeDue, begun_with, content_of, Reader}
use Rattle.gf_tree.proofs.lemmas.reader.Steps.{fails_back, lacks_memory}
use Rattle.gf_tree.proofs.lemmas.reader.Telling.{grows_same, reads_none, shorter_by, tells}
use Rattle.gf_tree.proofs.reader.Reader.end_outcome.Goals as goal

pub returns-in_default-keep_outcome : goal.returns-in_default-keep_outcome
returns-in_default-keep_outcome g c =
    lacks_memory c.in-Some.ensures.place c.at.ensures NodeDue
    (with_node (with_outcome (content_of c.args.self.now) c.args.number
    (outcome_with (label_of c.args.name) c.args.self.now.outcomes.pending))
    (begun_with c.args.self.now.sets.known (label_of c.args.node) c.args.set)
    (Some c.args.number))
    (search rules)

pub returns-in_err-tell : goal.returns-in_err-tell
returns-in_err-tell g c =
    fails_back {r = c.from_residual.result} _ (search rules)
    (lacks_memory c.in-Some.ensures.place c.in_err-tell.ensures NodeDue
    (with_node (with_outcome (content_of c.args.self.now) c.args.number
    (outcome_with (label_of c.args.name) c.args.self.now.outcomes.pending))
    (begun_with c.args.self.now.sets.known (label_of c.args.node) c.args.set)
    (Some c.args.number))
    (search rules))

pub returns : goal.returns
returns g c =
    let kept = c.in-Ok.ensures.kept in
    tells NodeDue {old = c.args.self.now} (ap (λ (r : Reader). r.told_sets) kept)
    (ap (λ (r : Reader). r.told_outcomes) kept)
    (grows_same (sym (ap (λ (r : Reader). r.sets.known) kept))) c.in-Ok.ensures.grows
    (record { set = search rules; outcome = omega (arith, c.in-Ok.ensures.place) })
    c.in_ok-tell.ensures (search rules) reads_none refl (ap (λ (r : Reader). r.due) kept) (omega (
      arith,
      shorter_by c.in-Some.ensures.next,
      ap (λ (r : Reader). length r.tokens.ahead) kept,
    ))
