use Rattle.gf_form.proofs.Common.{length, get_or, None, ◌≡◌, ℕ}
use Rattle.gf_form.proofs.values.still.no_rows.Given as goal

abbrev pub invariant-loop : goal.invariant-loop
invariant-loop l = (length l.rows.items ≡ l.counter)
    × ((at : ℕ) → get_or l.rows.items at None ≡ None)
