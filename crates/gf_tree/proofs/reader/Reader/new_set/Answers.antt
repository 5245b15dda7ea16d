use Rattle.gf_tree.proofs.Common.{◌+◌, ◌∙◌, ap, sym, rules, label_of, Remaining, set_of, set_with}
use Rattle.gf_tree.proofs.Common.{NewAction, OutcomeNumber, answer, begun_with}
use Rattle.gf_tree.proofs.lemmas.reader.Steps.{goes_on, carried, fails_back}
use Rattle.gf_tree.proofs.reader.Reader.new_set.Goals as goal

pub returns-clause-machine : goal.returns-clause-machine
returns-clause-machine c = λ node.
    goes_on c.end_set.result _ _
    (λ place. answer (OutcomeNumber (begun_with c.end_set.new.self.sets.known node (place + 1)))
    c.end_set.new.self)
    (c.loop-label.invariant.goes node
    ∙ ap (λ (t : Remaining). answer (NewAction node (set_of c.args.player c.args.number)
    (set_with (label_of c.in-Some.name.label) c.loop-label.self.sets.pending) c.loop-label.sum)
    (record c.loop-label.self { tokens = t }))
    (sym c.in_default-text.ensures.next.0))
    (c.end_set.ensures.machine node)

pub returns-in_err-sum-clause-machine : goal.returns-in_err-sum-clause-machine
returns-in_err-sum-clause-machine c = λ node.
    fails_back {r = c.from_residual.result} _ (search rules)
    (carried (c.in_err-sum.ensures.machine node c.args.number
    (label_of c.in-Some.name.label)) (search rules))
