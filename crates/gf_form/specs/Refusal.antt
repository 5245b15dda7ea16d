-- Why a game has no table.
use Rattle.std.specs.Prelude.{◌≡◌, ℕ, ◌<◌, List, length, Some}
use Rattle.std.specs.List.{AllByRecursion, Contains}
use Rattle.gf_fraction.specs.Ratio.{Ratio}
use Rattle.gf_token.specs.Positions.{at_position}
use Rattle.gf_nfg.specs.Limit.{profile_limit}
use Rattle.gf_tree.specs.Description.{SetKey}
use Rattle.gf_tree.specs.Game.{Game}
use Rattle.gf_form.specs.Strategies.{choices_by, full_profiles, players_of, strategies_at}
use Rattle.gf_form.specs.BottomUp.{IsValue}
use Rattle.gf_form.specs.Reduced.{reduced_at, reduced_by, reduced_profiles}

-- its profiles pass their limit
abbrev pub HasTooManyProfiles : Game → Type 0
HasTooManyProfiles g = profile_limit < length (full_profiles g)

-- each player has a bottom-up value, if these are the choices
abbrev pub HasValuesWith : Game → (SetKey → ℕ) → Type 0
HasValuesWith g choices = AllByRecursion
    (λ player. (value : Ratio) × IsValue g choices player g.tree value) (players_of g)

-- each player has a bottom-up value at this profile
abbrev pub HasValues : Game → List ℕ → Type 0
HasValues g profile = HasValuesWith g (choices_by g (strategies_at g profile))

-- the profile at this position is the first of these at which it does not hold
pub record IsFirstWithout (Holds : List ℕ → Type 0) (profiles : List (List ℕ)) (position : ℕ)
    : Type 0 where
  pub profile : List ℕ
  pub there : at_position profiles position ≡ Some profile
  pub overflows : ¬ (Holds profile)
  pub first : (earlier : ℕ) (other : List ℕ) → earlier < position
      → at_position profiles earlier ≡ Some other → Holds other

-- at the profile at this position, and at none before it, some player has none
abbrev pub OverflowsAt : Game → ℕ → Type 0
OverflowsAt g position = IsFirstWithout (HasValues g) (full_profiles g) position

-- each player has one at every full profile that reduces to this profile
abbrev pub HasReducedValues : Game → List ℕ → Type 0
HasReducedValues g profile = (full : List ℕ) → Contains (full_profiles g) full
    → reduced_by g full ≡ reduced_at g profile → HasValues g full

-- the same for the profiles of the reduced form
abbrev pub ReducedOverflowsAt : Game → ℕ → Type 0
ReducedOverflowsAt g position = IsFirstWithout (HasReducedValues g) (reduced_profiles g) position
