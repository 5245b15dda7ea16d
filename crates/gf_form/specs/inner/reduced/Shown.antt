-- A strategy with flags, which mark the sets that are relevant under it.
use Rattle.std.specs.Prelude.{ℕ, Bool, List, [], ◌∷◌, map, Option, Some, None, if◌then◌else◌}
use Rattle.gf_tree.specs.KeysInOrder.{player_keys}
use Rattle.gf_tree.specs.Game.{Game}
use Rattle.gf_form.specs.Reduced.{is_relevant}
use Rattle.gf_form.specs.Strategies.{choice_at}

-- whether each of a player's sets is relevant under their strategy
abbrev pub relevant_sets : Game → ℕ → List ℕ → List Bool
relevant_sets g player strategy =
    map (is_relevant g (choice_at (player_keys g player) strategy)) (player_keys g player)

-- the choices at which the flag is set
abbrev pub shown : List Bool → List ℕ → List (Option ℕ)
shown (flag ∷ flags) (action ∷ strategy) =
    (if flag then Some action else None) ∷ shown flags strategy
shown _ _ = []
