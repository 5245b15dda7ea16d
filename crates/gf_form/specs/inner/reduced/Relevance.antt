-- How the visits of a player show which of their sets are relevant.
use Rattle.std.specs.Prelude.{◌≡◌, ℕ, List, Some, slice_get}
use Rattle.gf_tree.specs.Description.{SetKey}
use Rattle.gf_tree.specs.KeysInOrder.{player_keys}
use Rattle.gf_tree.specs.Game.{Game}
use Rattle.gf_form.specs.Reduced.{is_relevant}
use Rattle.gf_form.specs.Strategies.{action_counts, choice_at}
use Rattle.gf_form.specs.inner.reduced.OwnDigits.{own_steps}
use Rattle.gf_form.specs.inner.reduced.Visits.{AreActions, is_met}
use Rattle.gf_form.specs.inner.rows.DigitSteps.{picked}
use Rattle.gf_form.specs.declared.reduced.visits.Visit.{Visit}

-- a set is relevant under a strategy exactly when it is met on a visit that comes about by it
pub record FindRelevance (g : Game) (player : ℕ) (visits : List Visit) : Type 0 where
  pub relevant : (strategy : List ℕ) (place : ℕ) (key : SetKey)
      → AreActions (action_counts g player) strategy
      → slice_get (player_keys g player) place ≡ Some key
      → is_relevant g (choice_at (player_keys g player) strategy) key
      ≡ is_met place (own_steps (action_counts g player)) (picked (action_counts g player)
      strategy) visits
