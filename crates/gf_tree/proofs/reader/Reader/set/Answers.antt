use Rattle.gf_tree.proofs.Common.{◌∙◌, ap, arith, set_of, content_of}
use Rattle.gf_token.specs.Offered.{positive}
use Rattle.gf_token.proofs.Offered.{index_answers, index_read}
use Rattle.gf_tree.proofs.lemmas.reader.Steps.{set_again, set_known_again, taken}
use Rattle.gf_tree.proofs.reader.Reader.set.Goals as goal

pub returns-in-Some-known_set-clause-machine : goal.returns-in-Some-known_set-clause-machine
returns-in-Some-known_set-clause-machine c = λ node.
    let content = content_of c.args.self.now in
    let key = set_of c.args.player c.in-Some-positive.number in
    let tokens = c.index.new.self in
    let read = index_read c.in-Some.word.bytes.now c.in-Some.index c.in-Some.ensures.index in
    set_again content node c.args.player c.in-Some-positive.number _ _ _ c.args.self.now.tokens tokens
    _
    (taken c.in-Some.ensures.next c.in-Some.ensures.input)
    (c.in-Some-positive.ensures ∙ ap positive read)
    (set_known_again content node key c.in-Some-known_set.place tokens tokens
    c.in-Some-known_set.ensures.known (grind arith))

pub returns-in_default-clause-machine : goal.returns-in_default-clause-machine
returns-in_default-clause-machine c = grind (arith, index_answers)

pub returns-in_default-positive-clause-machine : goal.returns-in_default-positive-clause-machine
returns-in_default-positive-clause-machine c = grind (arith, index_answers)

pub returns-in_err-place-clause-machine : goal.returns-in_err-place-clause-machine
returns-in_err-place-clause-machine c = grind (arith, index_answers)

pub returns-in-None-clause-machine : goal.returns-in-None-clause-machine
returns-in-None-clause-machine c = grind (arith, index_answers)

pub returns-then-is_quoted-clause-machine : goal.returns-then-is_quoted-clause-machine
returns-then-is_quoted-clause-machine c = grind (arith, index_answers)
