use Rattle.gf_canon.proofs.Common.{arith, length-map, set_numbers, Set, player_keys, SetKey}
use Rattle.gf_canon.proofs.lemmas.numbers.CarriedPairs.{numbers_carried}
use Rattle.gf_canon.proofs.lemmas.numbers.PairsInTurn.{both_there, pair_more, pairs_done}
use Rattle.gf_canon.proofs.numbering.pairs.tell_sets.Goals as goal

pub loop-before-preserved-in_default : goal.loop-before-preserved-in_default
loop-before-preserved-in_default g c = λ r told carries held.
    let keys = player_keys c.args.g.now c.args.player in
    let long = length-map keys (λ (key : SetKey). key.number) in
    let there = both_there (r.set c.args.player) _ _
    (numbers_carried r c.args.g.now c.args.h.now c.requires carries c.args.player)
    c.loop-before.before (omega arith) in
    grind arith

pub loop-before-preserved : goal.loop-before-preserved
loop-before-preserved g c = λ r told carries held.
    let keys = player_keys c.args.g.now c.args.player in
    let long = length-map keys (λ (key : SetKey). key.number) in
    rw (← pair_more (r.set c.args.player) _ _
    (numbers_carried r c.args.g.now c.args.h.now c.requires carries c.args.player)
    c.loop-before.before (omega arith) (Set c.args.player) c.in-Some-Some.number
    c.in-Some-Some.new_number told c.in-Some-Some.ensures c.in-Some-Some.ensures')
    (c.in_ok-pair.ensures _ (c.loop-before.invariant r told carries held))

pub returns : goal.returns
returns g c = λ r told carries held.
    let keys = player_keys c.args.g.now c.args.player in
    let long = length-map keys (λ (key : SetKey). key.number) in
    rw (← pairs_done (λ n. Set c.args.player n (r.set c.args.player n))
    (set_numbers c.args.g.now c.args.player) c.loop-before.before (omega arith))
    (c.loop-before.invariant r told carries held)
