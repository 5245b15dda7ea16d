use Rattle.gf_form.proofs.Common.{AreFoundTo, length, ◌+◌, ◌*◌}
use Rattle.gf_form.proofs.reduced.first.Search.+push_below.Given as goal

abbrev pub decreases-push_below : goal.decreases-push_below
decreases-push_below l = length l.digits.now

abbrev pub invariant-loop-before : goal.invariant-loop-before
invariant-loop-before l =
    AreFoundTo l.player.game.now l.player.number l.self.numbers.items (l.number + l.before * l.each)
