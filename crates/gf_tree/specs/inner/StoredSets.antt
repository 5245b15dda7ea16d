-- How the information sets that are known are stored.
use Rattle.std.specs.Prelude.{◌≡◌, ℕ, ◌+◌, ◌<◌, ◌≤◌, ◌^◌, List, [], length, map, drop, get_or}
use Rattle.std.specs.Prelude.{option_map, slice_get, slice_range}
use Rattle.gf_token.specs.Label.{label_of}
use Rattle.gf_tree.specs.declared.game.action.Action.{Action as Held}
use Rattle.gf_tree.specs.declared.game.sets.SetKey.{SetKey as StoredKey}
use Rattle.gf_tree.specs.declared.game.sets.StoredSet.{StoredSet}
use Rattle.gf_tree.specs.Actions.{actions_of}
use Rattle.gf_tree.specs.FiniteMap.{Described}
use Rattle.gf_tree.specs.KnownSets.{KnownSets, known_of, number_among}
use Rattle.gf_tree.specs.Description.{SetKey, InformationSet, set_of}
use Rattle.gf_tree.specs.inner.Stretches.{AreStretches}

-- after its actions
abbrev pub end_of : StoredSet → ℕ
end_of s = s.start + s.count

abbrev pub described : List Held → StoredKey × StoredSet → Described SetKey InformationSet
described actions e = record {
  key = set_of e.0.player e.0.number;
  description = record {
    name = label_of e.1.name;
    actions = actions_of (slice_range actions e.1.start (end_of e.1));
  };
}

abbrev pub stored_sets : List (StoredKey × StoredSet) → List Held → ℕ → KnownSets
stored_sets entries actions from = record {
  known = map (described actions) entries;
  pending = actions_of (drop from actions);
}

-- the actions there are those from here on
pub record HoldActions (actions : List Held) (from start end : ℕ) : Type 0 where
  pub ordered : start ≤ end
  pub within : end ≤ length actions
  pub begun : from ≤ length actions
  pub same : actions_of (slice_range actions start end) ≡ actions_of (drop from actions)

-- each player has the numbers of their sets, and each set its number among those of its player
pub record AreNumbered (players : List (List ℕ)) (entries : List (StoredKey × StoredSet))
    (known : List (Described SetKey InformationSet)) : Type 0 where
  pub numbers : (player : ℕ)
      → get_or players player [] ≡ map (λ s. s.key.number) (known_of player known)
  pub among : (place : ℕ)
      → option_map (λ e. e.1.among) (slice_get entries place) ≡ number_among known place

pub record AreSets (players : List (List ℕ)) (entries : List (StoredKey × StoredSet))
    (actions : List Held) (from : ℕ) : Type 0 where
  pub stretches : AreStretches (λ e. e.1.start) (λ e. end_of e.1) entries actions from
  pub numbered : AreNumbered players entries (map (described actions) entries)
  pub few : length entries < 2 ^ 32
