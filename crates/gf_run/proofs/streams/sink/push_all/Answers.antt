use Rattle.std.proofs.Common.{◌≡◌, ◌<◌, ◌≤◌, [], append-nil, length, rules}
use Rattle.std.proofs.lemmas.List.{drop_all}
use Rattle.gf_run.proofs.Asked.{fails, nothing_yet, takes}
use Rattle.gf_run.proofs.Errors.{only_error}
use Rattle.gf_run.proofs.streams.sink.push_all.Goals as goal

pub returns-in_err-count-clause-part : goal.returns-in_err-count-clause-part
returns-in_err-count-clause-part g c =
    let turn = c.in_err-count.ensures in
    let some : 0 < length c.loop-rest.rest.now = search rules in
    only_error _ _ _ _ c.from_residual.ensures.1 (fails _ c.args.output.now _ _ _ _ [] (c.loop-rest.invariant _ _ []
    (rw append-nil (nothing_yet _ _ _))) some turn.bytes turn.turn turn.counted)

pub returns-in_err-count-clause-next : goal.returns-in_err-count-clause-next
returns-in_err-count-clause-next g c = λ start whole after begun.
    let turn = c.in_err-count.ensures in
    let some : 0 < length c.loop-rest.rest.now = search rules in
    only_error _ _ _ _ c.from_residual.ensures.1 (fails _ _ _ _ _ _ _
    (c.loop-rest.invariant start whole after begun) some turn.bytes turn.turn turn.counted)

pub loop-rest-preserved : goal.loop-rest-preserved
loop-rest-preserved g c = λ start whole after begun.
    let turn = c.in_ok-count.ensures in
    let some : 0 < length c.loop-rest.rest.now = search rules in
    takes _ _ _ _ _ _ _ (c.loop-rest.invariant start whole after begun) some c.in_ok-count.count
    turn.bytes turn.turn turn.counted

pub returns-clause-all : goal.returns-clause-all
returns-clause-all g c =
    let past : length c.loop-rest.rest.now ≤ 0 = search rules in
    let none : c.loop-rest.rest.now ≡ [] = drop_all 0 c.loop-rest.rest.now past in
    rw none at c.loop-rest.invariant c.args.output.now c.args.text.now []
    (rw append-nil (nothing_yet _ _ _))

pub returns-clause-next : goal.returns-clause-next
returns-clause-next g c = λ start whole after begun.
    let past : length c.loop-rest.rest.now ≤ 0 = search rules in
    let none : c.loop-rest.rest.now ≡ [] = drop_all 0 c.loop-rest.rest.now past in
    rw none at c.loop-rest.invariant start whole after begun
