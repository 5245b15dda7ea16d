-- New numbers that are listed in the order of first use.
use Rattle.std.specs.Prelude.{◌≡◌, ℕ, suc, nat_eq, ◌<◌, ◌≤◌, Bool, List, [], ◌∷◌, get_or, length}
use Rattle.std.specs.Prelude.{if◌then◌else◌}
use Rattle.std.specs.List.{AllByRecursion, Contains}
use Rattle.gf_tree.specs.Description.{same_set, set_of}
use Rattle.gf_tree.specs.KeysInOrder.{outcome_numbers, player_keys}
use Rattle.gf_tree.specs.Game.{Game}
use Rattle.gf_tree.specs.Renumbering.{Renumbering}

-- the number at the same place as the key among the keys
abbrev pub number_listed : {K : Type 0} → (K → K → Bool) → List K → List ℕ → K → ℕ
number_listed same [] ns key = 0
number_listed same (k ∷ ks) [] key = 0
number_listed same (k ∷ ks) (n ∷ ns) key = if same k key then n else number_listed same ks ns key

-- positive numbers, none of them repeated
abbrev pub AreNumbers : List ℕ → Type 0
AreNumbers [] = Unit {0}
AreNumbers (n ∷ ns) = (0 < n) × (Contains ns n → ⊥) × AreNumbers ns

-- A list for chance, then one for each player, each as long as their sets, and a list as long as
-- the outcomes.
pub record AreListed (g : Game) (sets : List (List ℕ)) (outcomes : List ℕ) : Type 0 where
  pub one_list_each : length sets ≡ suc (length g.players)
  pub each_set : (player : ℕ) → player ≤ length g.players
      → length (get_or sets player []) ≡ length (player_keys g player)
  pub set_numbers : AllByRecursion AreNumbers sets
  pub each_outcome : length outcomes ≡ length (outcome_numbers g)
  pub outcome_numbers : AreNumbers outcomes

-- The i-th set of each player, and the i-th outcome, in order of first use, gets the i-th number of
-- its list.
abbrev pub listed_numbers : Game → List (List ℕ) → List ℕ → Renumbering
listed_numbers g sets outcomes = record {
  set = λ player number.
      number_listed same_set (player_keys g player) (get_or sets player []) (set_of player number);
  outcome = λ number. number_listed nat_eq (outcome_numbers g) outcomes number;
}
