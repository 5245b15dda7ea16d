use Rattle.gf_form.proofs.Common.{IsShareAt, rows_of, Scaled, Ratio, arith, List, Path, lit<, refl}
use Rattle.gf_form.proofs.Common.{◌++◌, pos, ◌<◌, ◌∙◌, ◌∷◌, ◌≡◌, ◌≤◌, [], ap, ℕ, ℤ}
use Rattle.gf_form.proofs.lemmas.rows.FlatRows.{one_item, in_bits}
use Rattle.gf_form.proofs.rows.listed.push_shares.Goals.{in-None, in-Some}
use Rattle.gf_form.proofs.rows.listed.push_shares.Goals as goal

-- over the same denominator, or none, and of no smaller size
still : (rows : List (List Ratio)) (rs : List Path) (was is : Scaled)
    → (0 < is.den → is.den ≡ was.den) → was.size ≤ is.size → (k : ℕ) (z : ℤ)
    → IsShareAt rows rs was k z → IsShareAt rows rs is k z
still rows rs was is same up k z h = grind arith

pub loop-place-preserved : goal.loop-place-preserved
loop-place-preserved c =
    let rows = rows_of c.args.payoffs.now in
    let rs = c.args.nodes.now in
    let place = c.loop-place.place in
    let was = c.loop-place.over in
    let now = c.loop-place.numbers.items in
    let pushed = c.in_ok-push.ensures.items in
    elim c.match-shares_of.branch [
      | in-Some w ↦
          let sum = w.in-Some.sum in
          let small = w.in-Some.ensures.within in
          let over : Scaled = record { den = was.den; size = w.max.result } in
          rw w.over-is (one_item (IsShareAt rows rs was) (IsShareAt rows rs over) place _ now _
          sum.amount
          (pushed ∙ ap (λ (z : ℤ). now ++ z ∷ []) (w.number-is ∙ in_bits sum.amount small))
          (still rows rs was over (λ _. refl) (omega (arith, w.max.ensures)))
          (still rows rs (record { den = was.den; size = sum.bound }) over (λ _. refl)
          (omega (arith, w.max.ensures)) place sum.amount
          (small, λ _. w.in-Some.ensures.shares)) c.loop-place.invariant)
      | in-None w ↦
          let over : Scaled = record { den = 0; size = was.size } in
          rw w.over-is (one_item (IsShareAt rows rs was) (IsShareAt rows rs over) place _ now _
          (pos 0) (pushed ∙ ap (λ (z : ℤ). now ++ z ∷ []) w.number-is)
          (still rows rs was over (λ above. absurd (omega (arith, above))) (omega arith))
          (lit< tt, λ above. absurd (omega (arith, above))) c.loop-place.invariant)
    ]
