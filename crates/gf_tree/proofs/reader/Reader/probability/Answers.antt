use Rattle.gf_tree.proofs.Common.{Some, rules, label_of, set_of, set_with, content_of, with_action}
use Rattle.gf_tree.proofs.Common.{NewAction, answer_is}
use Rattle.gf_tree.proofs.lemmas.reader.Steps.{lacks_memory}
use Rattle.gf_tree.proofs.reader.Reader.probability.Goals as goal

pub returns-in-Err-push-clause-machine : goal.returns-in-Err-push-clause-machine
returns-in-Err-push-clause-machine c = λ node number name.
    let read = answer_is c.in-Some.word.bytes.now c.in-Some.number c.in-Some.ensures.number in
    lacks_memory c.in-Some.ensures.place c.at.ensures
    (NewAction node (set_of 0 number) (with_action (set_with name c.args.self.now.sets.pending)
    (label_of c.args.label) (Some c.in-Ok.share.probability)) c.in-Ok.share.sum)
    (content_of c.args.self.now) (search rules)
