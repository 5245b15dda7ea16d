-- Which numbers of two games correspond.
use Rattle.std.specs.Prelude.{◌≡◌, ℕ, suc, List, [], ◌++◌, length, map}
use Rattle.std.specs.List.{flat_map}
use Rattle.gf_nfg.specs.Profiles.{numbers_from}
use Rattle.gf_tree.specs.KeysInOrder.{outcome_numbers, player_keys}
use Rattle.gf_tree.specs.Game.{Game}
use Rattle.gf_tree.specs.Renumbering.{Renumbering}
use Rattle.gf_tree.specs.SameGame.{Carries, SameGame}
use Rattle.gf_canon.specs.GameFile.{GameFile}
use Rattle.gf_canon.specs.GameFile.GameFile.{extensive}
use Rattle.gf_canon.specs.declared.numbering.pairs.NumberPair.{NumberPair}

-- the numbers of a player's sets, in order of first use
abbrev pub set_numbers : Game → ℕ → List ℕ
set_numbers g player = map (λ key. key.number) (player_keys g player)

-- each of them beside its new number
abbrev pub set_pairs : Renumbering → Game → ℕ → List NumberPair
set_pairs r g player =
    map (λ number. NumberPair.Set player number (r.set player number)) (set_numbers g player)

-- each outcome's number beside its new number, in order of first use
abbrev pub outcome_pairs : Renumbering → Game → List NumberPair
outcome_pairs r g = map (λ number. NumberPair.Outcome number (r.outcome number)) (outcome_numbers g)

-- the sets of chance, who is player 0, then those of player after player, and then the outcomes
abbrev pub renumbering_pairs : Renumbering → Game → List NumberPair
renumbering_pairs r g =
    flat_map (set_pairs r g) (numbers_from 0 (suc (length g.players))) ++ outcome_pairs r g

-- of two games those of each renumbering that carries the first to the second: so all of them have
-- the same pairs; tables have none
abbrev pub ArePairs : GameFile → GameFile → List NumberPair → Type 0
ArePairs (extensive g) (extensive h) pairs =
    (r : Renumbering) → Carries r g h → pairs ≡ renumbering_pairs r g
ArePairs _ _ pairs = pairs ≡ []

-- games that are the same, so that there may be pairs to tell
abbrev pub HavePairs : GameFile → GameFile → Type 0
HavePairs (extensive g) (extensive h) = SameGame g h
HavePairs _ _ = ⊥
