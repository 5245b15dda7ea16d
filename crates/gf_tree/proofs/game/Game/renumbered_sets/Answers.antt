use Rattle.gf_tree.proofs.Common.{ap, arith, length, map, Game}
use Rattle.gf_tree.proofs.lemmas.games.Made.{its_game}
use Rattle.gf_tree.proofs.lemmas.stores.RenumberedStores.{set_absent, set_added}
use Rattle.gf_tree.proofs.game.Game.renumbered_sets.Goals as goal

pub add_set-requires-clause-absent : goal.add_set-requires-clause-absent
add_set-requires-clause-absent c =
    set_absent c.args.self.now (its_game _ _ c.self.invariant.is_game c.self.view_is)
    (map (λ own. own.items) c.args.sets.now) c.requires.0 c.requires.1
    c.self.inside.parts.sets.known c.loop-place.renumbered.known c.loop-place.place
    c.listed_number-number.result (ap (λ (g : Game). g.sets) c.self.view_is)
    c.loop-place.invariant.0 (omega (
      arith,
      c.loop-place-test.true,
      c.len-place-end.ensures.len,
      ap (λ (g : Game). length g.sets) c.self.view_is,
    )) c.listed_number-number.ensures

pub loop-place-preserved : goal.loop-place-preserved
loop-place-preserved c =
    set_added c.args.self.now (its_game _ _ c.self.invariant.is_game c.self.view_is)
    (map (λ own. own.items) c.args.sets.now) c.requires.0 c.requires.1
    c.self.inside.parts.sets.known c.loop-place.renumbered.known c.add_set.new.to.known
    c.loop-place.place c.listed_number-number.result (ap (λ (g : Game). g.sets) c.self.view_is)
    c.loop-place.invariant.0 (omega (
      arith,
      c.loop-place-test.true,
      c.len-place-end.ensures.len,
      ap (λ (g : Game). length g.sets) c.self.view_is,
    ))
    (omega (arith, c.listed_number-number.type_inv)) c.listed_number-number.ensures
    c.loop-place.invariant.1 c.in_ok-add_set.ensures
