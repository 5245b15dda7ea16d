-- Pure strategies: an action at each of a player's information sets.
use Rattle.std.specs.Prelude.{ℕ, ◌≤◌, List, [], ◌∷◌, length, map, flat_map}
use Rattle.std.specs.Prelude.{unwrap_or, zip, decimal, if◌then◌else◌}
use Rattle.std.specs.List.{AllZip, join_with_byte}
use Rattle.gf_token.specs.Positions.{at_position}
use Rattle.gf_nfg.specs.Profiles.{positions, profiles}
use Rattle.gf_tree.specs.Description.{SetKey, same_set}
use Rattle.gf_tree.specs.KeysInOrder.{player_keys, player_sets}
use Rattle.gf_tree.specs.Game.{Game}

-- how many actions there are at each of a player's sets
abbrev pub action_counts : Game → ℕ → List ℕ
action_counts g player = map (λ s. length s.description.actions) (player_sets g player)

-- If there are this many actions at each set: one action for each set, by its position from 1. The
-- last set's advances fastest.
abbrev pub all_choices : List ℕ → List (List ℕ)
all_choices [] = [] ∷ []
all_choices (count ∷ counts) =
    flat_map (λ action. map (λ others. action ∷ others) (all_choices counts)) (positions count)

-- A strategy has an action for each of the player's sets, in order of first use.
abbrev pub strategies : Game → ℕ → List (List ℕ)
strategies g player = all_choices (action_counts g player)

-- an action for each set of this player
abbrev pub IsStrategy : Game → ℕ → List ℕ → Type 0
IsStrategy g player strategy =
    AllZip (λ action count. (1 ≤ action) × (action ≤ count)) strategy (action_counts g player)

-- the players, from 1
abbrev pub players_of : Game → List ℕ
players_of g = positions (length g.players)

-- one strategy for each player
abbrev pub AreStrategies : Game → List (List ℕ) → Type 0
AreStrategies g all = AllZip (λ strategy player. IsStrategy g player strategy) all (players_of g)

-- its actions, joined by `-`
abbrev pub strategy_label : List ℕ → List ℕ
strategy_label strategy = join_with_byte 45 (map decimal strategy)

-- the strategy at this position, from 1; if there is no such position, one that chooses nothing
abbrev pub strategy_at : {A : Type 0} → List (List A) → ℕ → List A
strategy_at strategies position = unwrap_or (at_position strategies position) []

-- the strategies of a profile, which has a strategy of each player by its position from 1
abbrev pub strategies_at : Game → List ℕ → List (List ℕ)
strategies_at g profile = map (λ p. strategy_at (strategies g p.0) p.1) (zip (players_of g) profile)

-- what a strategy for these sets chooses at one of them, and 0 at any other
abbrev pub choice_at : List SetKey → List ℕ → SetKey → ℕ
choice_at (s ∷ sets) (action ∷ others) key =
    if same_set s key then action else choice_at sets others key
choice_at _ _ key = 0

-- what the owner of a set chooses at it, if these are the strategies of all players; chance has
-- none
abbrev pub choices_by : Game → List (List ℕ) → SetKey → ℕ
choices_by g all key = choice_at (player_keys g key.player) (strategy_at all key.player) key

-- the profiles of a game's strategies
abbrev pub full_profiles : Game → List (List ℕ)
full_profiles g = profiles (map (λ player. length (strategies g player)) (players_of g))
