-- Reduced strategies, which leave out choices that cannot matter, and the reduced form.
use Rattle.std.specs.Prelude.{◌≡◌, ℕ, ◌==◌, ◌&&◌, ◌||◌, not, Bool, true, false, List, [], ◌∷◌}
use Rattle.std.specs.Prelude.{length, map, zip, codes, decimal, Option, Some, None, if◌then◌else◌}
use Rattle.std.specs.List.{Contains, join_with_byte, list_all, list_any}
use Rattle.std.specs.Option.{option_map_or}
use Rattle.std.specs.Cmp.Lexicographic.{pointwise}
use Rattle.gf_fraction.specs.Ratio.{Ratio}
use Rattle.gf_nfg.specs.Profiles.{profiles}
use Rattle.gf_nfg.specs.Table.{Table}
use Rattle.gf_tree.specs.Description.{SetKey, same_set}
use Rattle.gf_tree.specs.FiniteMap.{first_uses}
use Rattle.gf_tree.specs.KeysInOrder.{player_keys}
use Rattle.gf_tree.specs.Game.{Game}
use Rattle.gf_form.specs.Plays.{Step, Play, plays}
use Rattle.gf_form.specs.Strategies.{choice_at, strategies, players_of}
use Rattle.gf_form.specs.Strategies.{strategies_at, strategy_at, full_profiles}
use Rattle.gf_form.specs.StrategicForm.{ArePayoffsAt, IsFormWith}

-- not a move of this player, or the one that they choose
abbrev pub is_own_choice : (SetKey → ℕ) → ℕ → Step → Bool
is_own_choice choices player s =
    option_map_or (λ key. not (key.player == player) || choices key == s.taken) s.node.set true

-- a play agrees with choices if each of the player's moves on it is their choice
abbrev pub agrees : (SetKey → ℕ) → ℕ → Play → Bool
agrees choices player play = list_all (is_own_choice choices player) play.steps

-- the steps come to a node of this set, and all moves of its owner before it are as they choose
abbrev pub comes_to : (SetKey → ℕ) → SetKey → List Step → Bool
comes_to choices key [] = false
comes_to choices key (s ∷ steps) = option_map_or (same_set key) s.node.set false
    || (is_own_choice choices key.player s && comes_to choices key steps)

-- a set is relevant if some play comes to it in this way
abbrev pub is_relevant : Game → (SetKey → ℕ) → SetKey → Bool
is_relevant g choices key = list_any (λ play. comes_to choices key play.steps) (plays g.tree)

-- the choices at relevant sets, and none at the others
abbrev pub reduced : Game → ℕ → List ℕ → List (Option ℕ)
reduced g player strategy =
    let sets = player_keys g player in
    let choices = choice_at sets strategy in
    map (λ key. if is_relevant g choices key then Some (choices key) else None) sets

abbrev pub same_choice : Option ℕ → Option ℕ → Bool
same_choice None None = true
same_choice (Some a) (Some b) = a == b
same_choice _ _ = false

-- each reduced strategy once, in the order of the first strategies that give them
abbrev pub reduced_strategies : Game → ℕ → List (List (Option ℕ))
reduced_strategies g player =
    first_uses (pointwise same_choice) (map (reduced g player) (strategies g player))

-- its actions, or `*` if there is none, joined by `-`
abbrev pub reduced_label : List (Option ℕ) → List ℕ
reduced_label strategy =
    join_with_byte 45 (map (λ choice. option_map_or decimal choice (codes "*")) strategy)

-- what the strategies of a full profile reduce to
abbrev pub reduced_by : Game → List ℕ → List (List (Option ℕ))
reduced_by g profile = map (λ p. reduced g p.0 p.1) (zip (players_of g) (strategies_at g profile))

-- the profiles of the reduced form
abbrev pub reduced_profiles : Game → List (List ℕ)
reduced_profiles g =
    profiles (map (λ player. length (reduced_strategies g player)) (players_of g))

-- the strategies of a profile of the reduced form
abbrev pub reduced_at : Game → List ℕ → List (List (Option ℕ))
reduced_at g profile =
    map (λ p. strategy_at (reduced_strategies g p.0) p.1) (zip (players_of g) profile)

-- the labels of a player's reduced strategies
abbrev pub reduced_labels : Game → ℕ → List (List ℕ)
reduced_labels g player = map reduced_label (reduced_strategies g player)

-- the payoffs at every full profile that reduces to this profile
abbrev pub AreReducedPayoffsAt : Game → List ℕ → List Ratio → Type 0
AreReducedPayoffsAt g profile payoffs = (full : List ℕ) → Contains (full_profiles g) full
    → reduced_by g full ≡ reduced_at g profile → ArePayoffsAt g full payoffs

-- the reduced form: by the reduced strategies, with the payoffs at each of their profiles
abbrev pub IsReducedForm : Game → Table → Type 0
IsReducedForm g t = IsFormWith (reduced_labels g) (AreReducedPayoffsAt g) g t
