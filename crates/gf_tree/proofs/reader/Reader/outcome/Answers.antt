use Rattle.gf_tree.proofs.Common.{KnownOutcomeName, begun_with, content_of, with_node, label_of}
use Rattle.gf_tree.proofs.Common.{NodeDue, arith, rules, None, Some, refl}
use Rattle.gf_token.proofs.Offered.{index_answers, index_read}
use Rattle.gf_tree.proofs.lemmas.reader.Steps.{fails_back, lacks_memory}
use Rattle.gf_tree.proofs.lemmas.reader.Telling.{grows_none, reads_none, shorter_by, tells}
use Rattle.gf_tree.proofs.reader.Reader.outcome.Goals as goal

pub returns-in_err-tell : goal.returns-in_err-tell
returns-in_err-tell g c =
    let read = index_read c.in-Some.word.bytes.now c.in-Some.index c.in-Some.ensures.index in
    fails_back {r = c.from_residual.result} _ (search rules)
    (lacks_memory c.in-Some.ensures.place c.in_err-tell.ensures NodeDue
    (with_node (content_of c.args.self.now)
    (begun_with c.args.self.now.sets.known (label_of c.args.node) c.args.set) None)
    (search rules))

pub returns-then-number-eq0 : goal.returns-then-number-eq0
returns-then-number-eq0 g c =
    let read = index_read c.in-Some.word.bytes.now c.in-Some.index c.in-Some.ensures.index in
    tells NodeDue {old = c.args.self.now} {r = record c.args.self.now { tokens = c.index.new.self }}
    refl refl (grows_none c.args.self.now.sets.known) (grows_none c.args.self.now.outcomes.known)
    (record { set = c.requires.set; outcome = omega arith })
    c.in_ok-tell.ensures (search rules) reads_none refl refl (shorter_by c.in-Some.ensures.next)

pub returns-in_err-tell-2 : goal.returns-in_err-tell-2
returns-in_err-tell-2 g c =
    let read = index_read c.in-Some.word.bytes.now c.in-Some.index c.in-Some.ensures.index in
    fails_back {r = c.from_residual-in_err-tell-2.result} _ (search rules)
    (lacks_memory c.in-Some.ensures.place c.in_err-tell-2.ensures
    (KnownOutcomeName c.in-Some-known_outcome.ensures.known.outcome)
    (with_node (content_of c.args.self.now)
    (begun_with c.args.self.now.sets.known (label_of c.args.node) c.args.set)
    (Some c.in-Some-index.number))
    (search rules))

pub returns : goal.returns
returns g c =
    let read = index_read c.in-Some.word.bytes.now c.in-Some.index c.in-Some.ensures.index in
    let known = c.in-Some-known_outcome.ensures.known in
    let told = c.in_ok-tell-2.ensures in
    let now = c.tell-2.new.self in
    tells (KnownOutcomeName known.outcome) {old = c.args.self.now}
    {r = record c.args.self.now { tokens = c.index.new.self }}
    refl refl (grows_none c.args.self.now.sets.known) (grows_none c.args.self.now.outcomes.known)
    (record { set = c.requires.set; outcome = known.within })
    told (search rules) reads_none (grind arith) refl (shorter_by c.in-Some.ensures.next)

pub returns-in_default : goal.returns-in_default
returns-in_default g c = grind (arith, index_answers)

pub returns-in_default-index : goal.returns-in_default-index
returns-in_default-index g c = grind (arith, index_answers)

pub returns-in_default-known_outcome : goal.returns-in_default-known_outcome
returns-in_default-known_outcome g c = grind (arith, index_answers)

pub returns-in_err-described_outcome : goal.returns-in_err-described_outcome
returns-in_err-described_outcome g c = grind (arith, index_answers)

pub returns-then-is_quoted : goal.returns-then-is_quoted
returns-then-is_quoted g c = grind (arith, index_answers)
