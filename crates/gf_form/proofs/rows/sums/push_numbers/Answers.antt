use Rattle.gf_form.proofs.Common.{IsSumAt, arith, ◌++◌, pos, ◌∙◌, ◌∷◌, [], ap, ℤ}
use Rattle.gf_form.proofs.lemmas.rows.FlatRows.{one_item, in_bits}
use Rattle.gf_form.proofs.rows.sums.push_numbers.Goals.{in-None, in-Some}
use Rattle.gf_form.proofs.rows.sums.push_numbers.Goals as goal

pub loop-place-preserved : goal.loop-place-preserved
loop-place-preserved c =
    let IsAt = IsSumAt c.args.first.now c.args.second.now c.args.scale in
    let before = c.loop-place.invariant in
    let den = c.loop-place.den in
    let pushed = c.push_reserved.ensures in
    let now = c.loop-place.numbers.items in
    elim c.match-sum_at.branch [
      | in-Some w ↦ rw w.den-is (record {
        adding = one_item (IsAt den) (IsAt den) c.loop-place.place c.args.numbers.now.items now
            c.push_reserved.new.self.items w.in-Some.number
            (pushed.items ∙ ap (λ (z : ℤ). now ++ z ∷ [])
            (w.number-is ∙ in_bits w.in-Some.number w.in-Some.ensures.within))
            (λ k z h. h) (λ _. w.in-Some.ensures.sum) before.adding;
        known = before.known;
        room = omega (arith, c.loop-place-test.true, before.room, pushed.len, pushed.capacity);
      })
      | in-None w ↦ rw w.den-is (record {
        adding = one_item (IsAt den) (IsAt 0) c.loop-place.place c.args.numbers.now.items now
            c.push_reserved.new.self.items (pos 0)
            (pushed.items ∙ ap (λ (z : ℤ). now ++ z ∷ []) w.number-is)
            (λ k z h above. absurd (omega (arith, above))) (λ above. absurd (omega (arith, above)))
            before.adding;
        known = λ above. absurd (omega (arith, above));
        room = omega (arith, c.loop-place-test.true, before.room, pushed.len, pushed.capacity);
      })
    ]
