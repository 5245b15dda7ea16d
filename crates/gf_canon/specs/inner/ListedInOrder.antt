-- The first-use numbers of a game's sets as lists.
use Rattle.std.specs.Prelude.{ℕ, suc, List, length, map}
use Rattle.gf_nfg.specs.Profiles.{numbers_from, positions}
use Rattle.gf_tree.specs.KeysInOrder.{player_keys}
use Rattle.gf_tree.specs.Game.{Game}

-- for chance, and then for each player, the numbers from 1 on, one for each of their sets
abbrev pub lists_in_order : Game → List (List ℕ)
lists_in_order g = map (λ player. positions (length (player_keys g player)))
    (numbers_from 0 (suc (length g.players)))
