use Rattle.gf_form.proofs.Common.{AreWritten, AreWithin, length, ◌*◌, ◌+◌, ◌-◌, ◌≡◌, ◌≤◌}
use Rattle.gf_form.proofs.rows.written.Written.+rows.Given as goal

abbrev pub decreases-push_rows : goal.decreases-push_rows
decreases-push_rows l = 3 * length l.digits.now

abbrev pub decreases-push_each : goal.decreases-push_each
decreases-push_each l = 3 * length l.faster.now + 1

abbrev pub decreases-push_summed : goal.decreases-push_summed
decreases-push_summed l = 3 * length l.faster.now + 2

abbrev pub invariant-push_each-loop-rest : goal.invariant-push_each-loop-rest
invariant-push_each-loop-rest l = (l.fn.run.from ≤ l.rest.from) × (l.rest.from ≤ l.fn.run.to)
    × (l.rest.to ≡ l.fn.run.to) × (l.rest.first ≡ l.fn.run.first) × (l.rest.count ≡ l.fn.run.count)
    × (l.level.players ≡ l.terms.players) × AreWritten l.asked l.rest.from l.self
    × AreWithin l.terms.demands.items l.chosen

abbrev pub decreases-push_each-loop-rest : goal.decreases-push_each-loop-rest
decreases-push_each-loop-rest l = l.fn.run.to - l.rest.from
