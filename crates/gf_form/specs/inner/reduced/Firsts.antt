-- The first strategies of the players that reduce to each of their reduced strategies, and the
-- payoffs at which they meet.
use Rattle.std.specs.Prelude.{◌≡◌, ℕ, ◌<◌, List, [], get_or, length, map}
use Rattle.std.specs.List.{AllByRecursion, AllZip, Contains}
use Rattle.gf_fraction.specs.Ratio.{Ratio}
use Rattle.gf_tree.specs.Game.{Game}
use Rattle.gf_form.specs.Reduced.{reduced, reduced_at, reduced_by, reduced_strategies}
use Rattle.gf_form.specs.StrategicForm.{ArePayoffsAt}
use Rattle.gf_form.specs.Strategies.{full_profiles, players_of, strategies}

-- strategies of a player with these numbers, from 0, reduce to the reduced ones in turn
abbrev pub AreFirstsOf : Game → List ℕ → ℕ → Type 0
AreFirstsOf g numbers player =
    (map (λ number. reduced g player (get_or (strategies g player) number [])) numbers
    ≡ reduced_strategies g player)
    × AllByRecursion (λ number. number < length (strategies g player)) numbers

-- those of each player
abbrev pub AreFirsts : Game → List (List ℕ) → Type 0
AreFirsts g numbers = AllZip (AreFirstsOf g) numbers (players_of g)

-- the payoffs at some full profile that reduces to this profile of the reduced form
pub record IsPaidAt (g : Game) (profile : List ℕ) (payoffs : List Ratio) : Type 0 where
  pub full : List ℕ
  pub there : Contains (full_profiles g) full
  pub reduces : reduced_by g full ≡ reduced_at g profile
  pub paid : ArePayoffsAt g full payoffs
