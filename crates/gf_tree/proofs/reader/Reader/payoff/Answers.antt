use Rattle.gf_tree.proofs.Common.{◌++◌, [], ◌∷◌, rules, outcome_with, NewPayoff, true, content_of}
use Rattle.gf_tree.proofs.Common.{answer_is}
use Rattle.gf_tree.proofs.lemmas.reader.Steps.{lacks_memory}
use Rattle.gf_tree.proofs.reader.Reader.payoff.Goals as goal

pub returns-in_default-push-clause-machine : goal.returns-in_default-push-clause-machine
returns-in_default-push-clause-machine c = λ b number name left.
    let read = answer_is c.in-Some.word.bytes.now c.in-Some.number c.in-Some.ensures.number in
    lacks_memory c.in-Some.ensures.place c.at.ensures
    (NewPayoff true b number
    (outcome_with name (c.args.self.now.outcomes.pending ++ c.in-Ok.payoff ∷ [])) left)
    (content_of c.args.self.now) (search rules)
