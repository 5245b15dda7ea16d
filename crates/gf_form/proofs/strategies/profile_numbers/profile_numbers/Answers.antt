use Rattle.gf_form.proofs.Common.{drop_of_length-le, take-append-drop, length-map, drop-cons, arith}
use Rattle.gf_form.proofs.Common.{product, Global, length, List, drop, take, Vec, map, suc, ◌-◌, []}
use Rattle.gf_form.proofs.Common.{◌<◌, ◌≡◌, ℕ}
use Rattle.gf_form.proofs.lemmas.rows.Digits.{product_joined}
use Rattle.gf_form.proofs.lemmas.strategies.CountedActions.{own_read}
use Rattle.gf_form.proofs.lemmas.strategies.Chosen.{all_right, zip_at}
use Rattle.gf_form.proofs.lemmas.strategies.PickedProfiles.{next_picked}
use Rattle.gf_form.proofs.strategies.profile_numbers.profile_numbers.Goals as goal

abbrev lists : List (Vec ℕ Global) → List (List ℕ)
lists all = map (λ own. own.items) all

pub with_player-requires-clause-own : goal.with_player-requires-clause-own
with_player-requires-clause-own c =
    let i = c.loop-place.place - 1 in
    let less : i < length c.args.picked.now =
    omega (arith, c.loop-place.auto.place, c.loop-place-test.true, c.requires.as_many) in
    let own = own_read c.args.picked.now i _ _ less c.index-picked-place.is c.deref.ensures.value in
    rw own (zip_at _ [] 0 (lists c.args.picked.now) c.args.counts.now c.requires.below i
    (rw length-map less))

pub with_player-requires-clause-others : goal.with_player-requires-clause-others
with_player-requires-clause-others c =
    let counts = c.args.counts.now in
    let i = c.loop-place.place - 1 in
    let less : i < length counts = omega (arith, c.loop-place.auto.place, c.loop-place-test.true) in
    let next : c.loop-place.place ≡ suc i = omega (arith, c.loop-place-test.true) in
    let below = all_right _ (λ rest. rest < product (drop (suc i) counts)) (λ _ _ one. one.within)
    _ _ (rw next at c.loop-place.invariant) in
    let whole = product_joined (take i counts) (drop i counts) in
    let own = drop-cons counts i 0 less in (
      product (drop (suc i) counts),
      rw c.deref-in-loop-place.ensures.value below,
      grind (arith, own, whole, take-append-drop, c.requires.few, c.requires.some),
    )

pub loop-place-preserved : goal.loop-place-preserved
loop-place-preserved c =
    let i = c.loop-place.place - 1 in
    let less : i < length c.args.counts.now =
    omega (arith, c.loop-place.auto.place, c.loop-place-test.true) in
    let next : c.loop-place.place ≡ suc i = omega (arith, c.loop-place-test.true) in
    let own = own_read c.args.picked.now i _ _ (omega (arith, less, c.requires.as_many))
    c.index-picked-place.is c.deref.ensures.value in
    rw (c.in_ok-numbers.ensures, own, c.deref-in-loop-place.ensures.value)
    (next_picked c.args.counts.now (lists c.args.picked.now) i _ c.requires.below less
    (rw next at c.loop-place.invariant))

pub loop-place-init : goal.loop-place-init
loop-place-init c = grind (arith, drop_of_length-le, c.requires.as_many, length-map)
