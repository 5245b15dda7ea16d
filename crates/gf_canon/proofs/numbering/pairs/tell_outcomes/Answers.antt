use Rattle.gf_canon.proofs.Common.{arith, outcome_numbers, Outcome, outcome_numbers_carried}
use Rattle.gf_canon.proofs.lemmas.numbers.PairsInTurn.{pair_more, pairs_done}
use Rattle.gf_canon.proofs.numbering.pairs.tell_outcomes.Goals as goal

pub loop-before-preserved : goal.loop-before-preserved
loop-before-preserved g c = λ r told carries held.
    rw (← pair_more r.outcome _ _
    (outcome_numbers_carried r c.args.g.now c.args.h.now c.requires.0 c.requires.1 carries)
    c.loop-before.before (omega arith) Outcome c.in-Some-Some.number c.in-Some-Some.new_number told
    c.in-Some-Some.ensures c.in-Some-Some.ensures')
    (c.in_ok-pair.ensures _ (c.loop-before.invariant r told carries held))

pub returns : goal.returns
returns g c = λ r told carries held.
    rw (← pairs_done (λ n. Outcome n (r.outcome n)) (outcome_numbers c.args.g.now)
    c.loop-before.before (omega arith)) (c.loop-before.invariant r told carries held)
