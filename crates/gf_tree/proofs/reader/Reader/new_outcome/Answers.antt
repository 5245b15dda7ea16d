use Rattle.gf_tree.proofs.Common.{◌≡◌, ◌-◌, ◌∙◌, ℕ, suc, ap, arith, rules, label_of, outcome_with}
use Rattle.gf_tree.proofs.Common.{NewPayoff, answer, begun_with, false}
use Rattle.std.proofs.lemmas.Grind.{common_steps}
use Rattle.gf_tree.proofs.lemmas.reader.Steps.{carried, fails_back}
use Rattle.gf_tree.proofs.reader.Reader.new_outcome.Goals as goal

pub returns-in_err-payoff : goal.returns-in_err-payoff
returns-in_err-payoff g c =
    let some = c.loop-left-test.true in
    let more : c.loop-left.left ≡ suc (c.loop-left.left - 1) = omega (arith, some) in
    fails_back {r = c.from_residual.result} _ (search rules)
    (carried (c.in_err-payoff.ensures.machine _ _ _ (c.loop-left.left - 1))
    (c.loop-left.invariant.goes
    ∙ ap (λ (n : ℕ). answer (NewPayoff false (begun_with c.args.self.now.sets.known
    (label_of c.args.node) c.args.set) c.args.number
    (outcome_with (label_of c.in-Some.name.label) c.loop-left.self.outcomes.pending) n)
    c.loop-left.self) more))

pub loop-left-preserved : goal.loop-left-preserved
loop-left-preserved g c = grind (arith, common_steps)

pub returns : goal.returns
returns g c = grind (arith, common_steps)
