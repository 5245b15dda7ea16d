use Rattle.std.proofs.Common.{◌≡◌, ◌∙◌, ℕ, ◌+◌, List, [], ◌∷◌, ◌++◌, ap, arith, get_or, subst, sym}
use Rattle.std.proofs.Common.{take}
use Rattle.std.proofs.lemmas.List.{take_more}
use Rattle.gf_explain.specs.Place.{IsPlaceAfter, line_feed}
use Rattle.gf_explain.specs.declared.place.Place.{Place}
use Rattle.gf_explain.proofs.Places.{after_feed, after_other, unlike}
use Rattle.gf_explain.proofs.place.place_after.Goals as goal
use Rattle.gf_explain.proofs.place.place_after.Goals.{then-byte-eq10, else-byte-eq10}

pub loop-byte-preserved : goal.loop-byte-preserved
loop-byte-preserved c =
    let i = c.loop-byte.byte-index in
    let bytes = c.args.bytes.now in
    let before = take i bytes in
    let more : take (i + 1) bytes ≡ before ++ get_or bytes i 0 ∷ [] =
    take_more bytes i 0 c.loop-byte-test.true in
    let now = c.loop-byte.invariant in
    elim c.if-byte-eq10.branch [
      | then-byte-eq10 w ↦
          let feed : before ++ line_feed ∷ [] ≡ take (i + 1) bytes =
          sym (more ∙ ap (λ (b : ℕ). before ++ b ∷ []) w.if-byte-eq10.true) in (
            subst (λ (text : List ℕ). IsPlaceAfter text c.if-byte-eq10.place) feed
                (subst (λ (place : Place). IsPlaceAfter (before ++ line_feed ∷ []) place)
                (sym w.place-is) (after_feed before c.loop-byte.place now.0)),
            rw w.place-is (omega (arith, now.1)),
            rw w.place-is (omega arith),
          )
      | else-byte-eq10 w ↦ (
        subst (λ (text : List ℕ). IsPlaceAfter text c.if-byte-eq10.place) (sym more)
            (subst (λ (place : Place). IsPlaceAfter (before ++ get_or bytes i 0 ∷ []) place)
            (sym w.place-is) (after_other before (get_or bytes i 0) c.loop-byte.place
            (unlike (get_or bytes i 0) w.if-byte-eq10.false) now.0)),
        rw w.place-is (omega (arith, now.1)),
        rw w.place-is (omega (arith, now.2)),
      )
    ]
