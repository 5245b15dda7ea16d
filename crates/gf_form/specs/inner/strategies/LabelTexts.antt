-- The texts of labels.
use Rattle.std.specs.Prelude.{◌≡◌, ◌==◌, ℕ, false, List, Option, codes, decimal}
use Rattle.std.specs.Option.{option_map_or}

-- a byte that spells itself in a label
abbrev pub IsPlain : ℕ → Type 0
IsPlain b = ((b == 34) ≡ false) × ((b == 92) ≡ false)

-- the choice at a set, or `*` if there is none
abbrev pub choice_text : Option ℕ → List ℕ
choice_text choice = option_map_or decimal choice (codes "*")
