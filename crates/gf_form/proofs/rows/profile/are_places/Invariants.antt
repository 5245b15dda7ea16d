use Rattle.gf_form.proofs.Common.{◌≡◌, ◌<◌, ℕ, get_or}
use Rattle.gf_form.proofs.rows.profile.are_places.Given as goal

abbrev pub invariant-loop-place : goal.invariant-loop-place
invariant-loop-place l = (i : ℕ) → i < l.place → get_or l.numbers i 0 ≡ i
