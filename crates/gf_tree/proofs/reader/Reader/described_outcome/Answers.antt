use Rattle.gf_tree.proofs.Common.{Some, rules, label_of, with_node, KnownOutcomeName}
use Rattle.gf_tree.proofs.Common.{begun_with, content_of}
use Rattle.gf_tree.proofs.lemmas.reader.Steps.{fails_back, lacks_memory}
use Rattle.gf_tree.proofs.lemmas.reader.Telling.{tells_again}
use Rattle.gf_tree.proofs.reader.Reader.described_outcome.Goals as goal

pub returns-in_err-tell : goal.returns-in_err-tell
returns-in_err-tell g c =
    fails_back {r = c.from_residual-in_err-tell.result} _ (search rules)
    (lacks_memory c.requires.stands c.in_err-tell.ensures
    (KnownOutcomeName c.in-Some.ensures.known.outcome)
    (with_node (content_of c.args.self.now)
    (begun_with c.args.self.now.sets.known (label_of c.args.node) c.args.set)
    (Some c.args.number))
    (search rules))

pub returns : goal.returns
returns g c =
    let known = c.in-Some.ensures.known in
    tells_again (KnownOutcomeName known.outcome) c.args.self.now c.tell.new.self
    c.outcome_again.new.self _ c.outcome_again.result
    (record { set = c.requires.set; outcome = known.within }) c.in_ok-tell.ensures (search rules)
    c.outcome_again.ensures.read (c.outcome_again.ensures.machine _ known.outcome (search rules))
