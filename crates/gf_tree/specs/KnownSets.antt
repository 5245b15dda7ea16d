-- The information sets that are known, in order of first use.
use Rattle.std.specs.Prelude.{ℕ, ◌+◌, ◌==◌, List, [], ◌∷◌, ◌++◌, length, take, slice_get, Option}
use Rattle.std.specs.Prelude.{option_map}
use Rattle.std.specs.List.{filter}
use Rattle.gf_fraction.specs.Ratio.{Ratio}
use Rattle.gf_tree.specs.Description.{Action, SetKey, InformationSet}
use Rattle.gf_tree.specs.FiniteMap.{Described}

-- each with its description; and the actions so far of one whose description is being read
pub record KnownSets : Type 0 where
  pub known : List (Described SetKey InformationSet)
  pub pending : List Action

-- the sets of a player
abbrev pub known_of : ℕ → List (Described SetKey InformationSet)
    → List (Described SetKey InformationSet)
known_of player known = filter (λ s. s.key.player == player) known

-- the number of the set at a place, from 1, among the sets of its player
abbrev pub number_among : List (Described SetKey InformationSet) → ℕ → Option ℕ
number_among known place =
    option_map (λ s. length (known_of s.key.player (take (place + 1) known)))
    (slice_get known place)

-- with one more action of the set whose description is being read
abbrev pub with_pending_action : KnownSets → List ℕ → Option Ratio → KnownSets
with_pending_action k label probability = record k {
  pending = k.pending ++ record { label = label; probability = probability } ∷ [];
}

-- with this set, which the pending actions describe
abbrev pub with_pending_set : KnownSets → SetKey → List ℕ → KnownSets
with_pending_set k key name = record {
  known = k.known
      ++ record { key = key; description = record { name = name; actions = k.pending } } ∷ [];
  pending = [];
}
