-- The digits of one player's demands: one for each of their sets at which they have several
-- actions.
use Rattle.std.specs.Prelude.{ℕ, suc, ◌+◌, List, [], ◌∷◌}
use Rattle.gf_form.specs.inner.rows.Demands.{steps_of}
use Rattle.gf_form.specs.inner.rows.DigitSteps.{picked, steps_after}
use Rattle.gf_form.specs.declared.reduced.digits.OwnDigit.{OwnDigit}

-- the digits of sets with this many actions each and these steps; the first set is at this place,
-- from 0
abbrev pub digits_with : ℕ → List ℕ → List ℕ → List OwnDigit
digits_with place (suc (suc n) ∷ counts) (step ∷ steps) =
    record { place = place; step = step; actions = suc (suc n) }
    ∷ digits_with (place + 1) counts steps
digits_with place (n ∷ counts) (step ∷ steps) = digits_with (place + 1) counts steps
digits_with place _ _ = []

-- with the steps that they have if no digit is faster
abbrev pub digits_from : ℕ → List ℕ → List OwnDigit
digits_from place counts = digits_with place counts (steps_after 1 counts)

-- what one more at each digit adds to demands
abbrev pub own_steps : List ℕ → List ℕ
own_steps counts = steps_of (picked counts counts)
