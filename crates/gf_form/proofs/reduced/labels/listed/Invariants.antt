use Rattle.gf_form.proofs.Common.{get_or, length, Found, ◌<◌, ◌≡◌, ℕ}
use Rattle.gf_form.proofs.reduced.labels.listed.Given as goal

abbrev pub invariant-loop-place : goal.invariant-loop-place
invariant-loop-place l = (length l.strategies.items ≡ l.place)
    × ((place : ℕ) (d : Found) → place < l.place → get_or l.strategies.items place d
    ≡ record { place = place; number = get_or l.numbers place 0 })
