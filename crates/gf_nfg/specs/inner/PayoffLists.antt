-- The payoffs of a table that is only compared.
use Rattle.std.specs.Prelude.{ℤ, List, [], ◌++◌, map, Option, unwrap_or}
use Rattle.gf_fraction.specs.Ratio.{Ratio, whole}

-- whole numbers, and then others
abbrev pub payoffs_in : List ℤ → List Ratio → List Ratio
payoffs_in numbers others = map whole numbers ++ others

-- rows, or none
abbrev pub rows_in : Option (List (List Ratio)) → List (List Ratio)
rows_in rows = unwrap_or rows []
