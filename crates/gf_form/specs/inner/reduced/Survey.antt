-- The visits of a player in a tree.
use Rattle.std.specs.Prelude.{ℕ, ◌==◌, ◌++◌, List, [], ◌∷◌, Option, Some, None, if◌then◌else◌}
use Rattle.std.specs.Prelude.{◌+◌, option_and_then, option_map}
use Rattle.std.specs.Option.{option_map_or}
use Rattle.gf_tree.specs.Description.{SetKey, same_set}
use Rattle.gf_tree.specs.Game.{Game}
use Rattle.gf_tree.specs.KeysInOrder.{player_keys}
use Rattle.gf_form.specs.inner.rows.Descents.{own_step, Handing, Stop, demanding, descent}
use Rattle.gf_form.specs.declared.reduced.visits.Visit.{Visit}

-- a walk hands demands down as they are
abbrev pub visit_handing : Handing ℕ
visit_handing = record { demands = λ d. d; below = λ g n s k demands. demands }

-- the place of a set among those with these keys, from 0
abbrev pub place_among : List SetKey → SetKey → Option ℕ
place_among [] key = None
place_among (k ∷ keys) key =
    if same_set k key then Some 0 else option_map (λ place. place + 1) (place_among keys key)

-- the visit to a set, if it is the player's
abbrev pub own_visit : Game → ℕ → ℕ → SetKey → Option Visit
own_visit g player demands key =
    if key.player == player
    then option_map (λ place. record { demands = demands; set = place })
    (place_among (player_keys g player) key)
    else None

abbrev pub visit_at : ℕ → Stop ℕ → Option Visit
visit_at player v = option_and_then (own_visit v.game player v.state) v.node.set

abbrev pub visits_of : ℕ → List (Stop ℕ) → List Visit
visits_of player [] = []
visits_of player (v ∷ vs) =
    option_map_or (λ visit. visit ∷ []) (visit_at player v) [] ++ visits_of player vs

-- those in the whole tree, if the digits of their sets have these steps
abbrev pub visits_by : Game → ℕ → List ℕ → List Visit
visits_by g player steps =
    visits_of player (descent g (demanding visit_handing g (own_step g player steps)) 0 g.tree)
