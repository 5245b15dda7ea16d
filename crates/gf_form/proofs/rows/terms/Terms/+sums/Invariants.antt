use Rattle.gf_form.proofs.Common.{◌+◌, ◌*◌, ◌≡◌, length, actions_at, AreAlike, EndsBelow, all_terms}
use Rattle.gf_form.specs.inner.rows.TermLists.{AreInOrder, AreWithin}
use Rattle.gf_form.proofs.lemmas.rows.ChoiceSums.{Summing}
use Rattle.gf_form.proofs.rows.terms.Terms.+sums.Given as goal

abbrev pub decreases-summed : goal.decreases-summed
decreases-summed l = 3 * length l.faster.now + 2

abbrev pub decreases-push_sums : goal.decreases-push_sums
decreases-push_sums l = 3 * length l.digits.now

abbrev pub decreases-push_each : goal.decreases-push_each
decreases-push_each l = 3 * length l.faster.now + 1

abbrev pub invariant-push_each-loop-before : goal.invariant-push_each-loop-before
invariant-push_each-loop-before l = record {
  summing : Summing (actions_at l.faster) (all_terms l.from) l.raised l.before
      (all_terms l.fn.self) (all_terms l.self);
  alike : AreAlike l.self l.fn.self;
  order : AreInOrder l.self;
  ends : EndsBelow l.self.demands.items (l.raised + (l.before + 1) * l.slowest.step);
  level : l.level.players ≡ l.from.players;
  within : AreWithin l.from.demands.items l.chosen;
}
