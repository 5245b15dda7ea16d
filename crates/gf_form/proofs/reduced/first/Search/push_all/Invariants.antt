use Rattle.gf_form.proofs.Common.{AreFoundTo, ◌+◌}
use Rattle.gf_form.proofs.reduced.first.Search.push_all.Given as goal

abbrev pub invariant-loop-before : goal.invariant-loop-before
invariant-loop-before l =
    AreFoundTo l.player.game.now l.player.number l.self.numbers.items (l.number + l.before)
