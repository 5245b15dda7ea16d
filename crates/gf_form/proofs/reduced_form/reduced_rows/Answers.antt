use Rattle.gf_form.proofs.Common.{Global, List, Vec, map, ℕ}
use Rattle.gf_form.proofs.lemmas.reduced.FirstStrategies.{reduced_overflow, AreTheirs}
use Rattle.gf_form.proofs.reduced_form.reduced_rows.Goals.{After-deref-2}
use Rattle.gf_form.proofs.reduced_form.reduced_rows.Goals as goal

abbrev lists : List (Vec ℕ Global) → List (List ℕ)
lists all = map (λ own. own.items) all

theirs : (c : goal.After-deref-2)
    → AreTheirs c.args.game.now (lists c.args.firsts.now) c.deref-2.result.now
theirs c = record {
  game = c.requires.counts.is_game;
  few = c.requires.counts.within;
  are = c.requires.firsts;
  picked = rw c.deref-2.ensures.value
      (rw (c.deref.ensures.value, c.requires.counts.strategies) at c.in_ok-numbers.ensures);
}

pub returns-clause-overflow : goal.returns-clause-overflow
returns-clause-overflow c position is =
    let h = theirs (goal.at.returns-clause-overflow c).After-deref-2 in
    reduced_overflow _ _ _ h position (c.profile_rows.ensures.overflow position is)
