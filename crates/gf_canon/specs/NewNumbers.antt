-- The renumbering that was found between two games, and that it is the only one.
use Rattle.std.specs.Prelude.{◌≡◌, ◌↔◌, ◌⊎◌, ℕ, zero, suc, List, Option, Some, IsSome, nat_eq}
use Rattle.std.specs.Prelude.{unwrap_or}
use Rattle.std.specs.Map.{lookup}
use Rattle.gf_tree.specs.Description.{SetKey, same_set, set_of}
use Rattle.gf_tree.specs.Game.{Game}
use Rattle.gf_tree.specs.Renumbering.{HasOutcome, HasSet, Renumbering}
use Rattle.gf_tree.specs.SameGame.{Carries}

-- finite maps: sets beside their new numbers, and numbers of outcomes beside new ones
pub record NewNumbers : Type 0 where
  pub sets : List (SetKey × ℕ)
  pub outcomes : List (ℕ × ℕ)

-- the new number of a player's set, if it has one
abbrev pub new_set_number : NewNumbers → ℕ → ℕ → Option ℕ
new_set_number r player number = lookup (same_set (set_of player number)) r.sets

-- the new number of an outcome; 0 is the null outcome, and stays as it is
abbrev pub new_outcome_number : NewNumbers → ℕ → Option ℕ
new_outcome_number r zero = Some 0
new_outcome_number r (suc n) = lookup (nat_eq (suc n)) r.outcomes

-- as functions, with 0 if there is no number
abbrev pub new_numbers : NewNumbers → Renumbering
new_numbers r = record {
  set = λ player number. unwrap_or (new_set_number r player number) 0;
  outcome = λ number. unwrap_or (new_outcome_number r number) 0;
}

-- Exactly the sets and outcomes of g have new numbers, and so has 0. These carry g to h, and whatever
-- does so gives them these numbers.
pub record IsOnlyRenumbering (r : NewNumbers) (g h : Game) : Type 0 where
  pub sets : (player number : ℕ) → IsSome (new_set_number r player number) ↔ HasSet g player number
  pub outcomes : (number : ℕ) → IsSome (new_outcome_number r number)
      ↔ ((number ≡ 0) ⊎ HasOutcome g number)
  pub carries : Carries (new_numbers r) g h
  pub only_sets : (s : Renumbering) → Carries s g h → (player number : ℕ)
      → HasSet g player number → new_set_number r player number ≡ Some (s.set player number)
  pub only_outcomes : (s : Renumbering) → Carries s g h → (number : ℕ)
      → HasOutcome g number → new_outcome_number r number ≡ Some (s.outcome number)
