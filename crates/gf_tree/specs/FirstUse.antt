-- Numbers in order of first use, in prefix order.
use Rattle.std.specs.Prelude.{ℕ, nat_eq, ◌==◌, ◌+◌, Bool, List}
use Rattle.std.specs.List.{filter, position_or_len}
use Rattle.gf_tree.specs.Description.{SetKey, same_set, set_of}
use Rattle.gf_tree.specs.FiniteMap.{first_uses}
use Rattle.gf_tree.specs.Renumbering.{Renumbering}
use Rattle.gf_tree.specs.Game.{Game, used_sets, used_outcomes}

-- a key's place, from 1, among the keys in order of first use
abbrev pub first_use_number : {K : Type 0} → (K → K → Bool) → List K → K → ℕ
first_use_number same uses key = position_or_len (same key) (first_uses same uses) + 1

-- the uses of a player's sets
abbrev pub sets_of : ℕ → List SetKey → List SetKey
sets_of player uses = filter (λ key. key.player == player) uses

-- the number of each set among the sets of its player, or of chance, and the number of each outcome
abbrev pub first_use_numbers : Game → Renumbering
first_use_numbers g = record {
  set = λ player number.
      first_use_number same_set (sets_of player (used_sets g.tree)) (set_of player number);
  outcome = λ number. first_use_number nat_eq (used_outcomes g.tree) number;
}
