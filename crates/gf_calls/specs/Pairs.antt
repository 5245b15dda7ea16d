-- Which numbers of two files correspond, in the form that C gets.
use Rattle.std.specs.Prelude.{◌≡◌, List, map}
use Rattle.gf_canon.specs.GameFile.{GameFile}
use Rattle.gf_canon.specs.Pairs as numbers
use Rattle.gf_canon.specs.declared.numbering.pairs.NumberPair.{NumberPair}
use Rattle.gf_calls.specs.declared.pair.Pair.{Pair}

-- the number of a player's set, or of an outcome, and its new number
abbrev pub told_pair : NumberPair → Pair
told_pair (NumberPair.Set player number new_number) =
    record { kind = 1; player = player; first = number; second = new_number }
told_pair (NumberPair.Outcome number new_number) =
    record { kind = 2; player = 0; first = number; second = new_number }

-- the pairs of two files, in their order
pub record ArePairs (x y : GameFile) (pairs : List Pair) : Type 0 where
  pub found : List NumberPair
  pub right : numbers.ArePairs x y found
  pub told : pairs ≡ map told_pair found
