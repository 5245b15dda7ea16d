-- Who moves at a node, and at which of their sets.
use Rattle.std.specs.Prelude.{◌≡◌, ℕ, Option, Some, None, MatchOption}
use Rattle.gf_token.specs.Positions.{at_position}
use Rattle.gf_tree.specs.Description.{SetKey}
use Rattle.gf_tree.specs.KeysInOrder.{player_keys}
use Rattle.gf_tree.specs.Game.{Game}

-- the owner of the set, where chance is player 0, and its position, from 1, among their sets in
-- order of first use; none if there is no set
abbrev pub IsMover : Game → Option SetKey → Option (ℕ × ℕ) → Type 0
IsMover g set mover = MatchOption mover (set ≡ None) (λ m. (key : SetKey) × (set ≡ Some key)
    × (key.player ≡ m.0) × (at_position (player_keys g m.0) m.1 ≡ Some key))
