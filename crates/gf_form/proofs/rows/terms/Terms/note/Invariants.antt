use Rattle.gf_form.proofs.Common.{◌≡◌, ◌≤◌, ◌-◌, ℕ, length, AreAlike, scaled_at}
use Rattle.gf_form.proofs.rows.terms.Terms.note.Given as goal

abbrev pub invariant-loop-self : goal.invariant-loop-self
invariant-loop-self l = record {
  noted : (k : ℕ) → scaled_at l.self k ≡ scaled_at l.fn.self k;
  within : length l.self.scaled.items ≤ length l.self.demands.items;
  demands : l.self.demands ≡ l.fn.self.demands;
  numbers : l.self.numbers ≡ l.fn.self.numbers;
  alike : AreAlike l.self l.fn.self;
}

abbrev pub decreases-loop-self : goal.decreases-loop-self
decreases-loop-self l = length l.self.demands.items - length l.self.scaled.items
