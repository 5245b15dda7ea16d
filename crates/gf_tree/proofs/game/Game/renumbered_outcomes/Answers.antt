use Rattle.gf_tree.proofs.Common.{ap, arith, get_or, length, slice_get-get_or, Game}
use Rattle.gf_tree.proofs.lemmas.games.Made.{its_game, listed_outcomes_counted}
use Rattle.gf_tree.proofs.lemmas.stores.RenumberedStores.{outcome_absent, outcome_added}
use Rattle.gf_tree.proofs.game.Game.renumbered_outcomes.Goals as goal

pub add_outcome-requires-clause-absent : goal.add_outcome-requires-clause-absent
add_outcome-requires-clause-absent c =
    outcome_absent c.args.self.now (its_game _ _ c.self.invariant.is_game c.self.view_is)
    c.requires.0 c.args.outcomes.now c.requires.1 c.loop-place.renumbered.known c.loop-place.place
    (get_or c.args.outcomes.now c.loop-place.place 0) c.loop-place.invariant.0 (omega (
      arith,
      c.loop-place-test.true,
      c.len-place-end.ensures.len,
      ap (λ (g : Game). length g.outcomes) c.self.view_is,
    )) (slice_get-get_or c.args.outcomes.now c.loop-place.place 0 (omega (
      arith,
      listed_outcomes_counted _ _ _ c.requires.1,
      c.loop-place-test.true,
      c.len-place-end.ensures.len,
      ap (λ (g : Game). length g.outcomes) c.self.view_is,
    )))

pub loop-place-preserved : goal.loop-place-preserved
loop-place-preserved c =
    outcome_added c.args.self.now (its_game _ _ c.self.invariant.is_game c.self.view_is)
    c.requires.0 c.args.outcomes.now c.requires.1
    c.self.inside.parts.outcomes.known c.loop-place.renumbered.known c.add_outcome.new.to.known
    c.loop-place.place (get_or c.args.outcomes.now c.loop-place.place 0)
    (ap (λ (g : Game). g.outcomes) c.self.view_is) c.loop-place.invariant.0 (omega (
      arith,
      c.loop-place-test.true,
      c.len-place-end.ensures.len,
      ap (λ (g : Game). length g.outcomes) c.self.view_is,
    )) (omega (
      arith,
      c.type_inv.outcomes
          c.loop-place.place,
    )) (slice_get-get_or c.args.outcomes.now c.loop-place.place 0 (omega (
      arith,
      listed_outcomes_counted _ _ _ c.requires.1,
      c.loop-place-test.true,
      c.len-place-end.ensures.len,
      ap (λ (g : Game). length g.outcomes) c.self.view_is,
    ))) c.loop-place.invariant.1 c.in_ok-add_outcome.ensures
