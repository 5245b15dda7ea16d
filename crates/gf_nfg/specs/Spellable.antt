-- Which tables a file can hold.
use Rattle.std.specs.Prelude.{ℕ, List, ◌∷◌, ◌++◌}
use Rattle.std.specs.List.{AllByRecursion, flat_map}
use Rattle.gf_fraction.specs.Ratio.{IsFraction}
use Rattle.gf_token.specs.LabelSpelling.{IsLabel}
use Rattle.gf_nfg.specs.Table.{Table, rows}

-- title, comment, and the names of the players and of the strategies
abbrev pub labels : Table → List (List ℕ)
labels t = t.title ∷ t.comment ∷ (t.players ++ flat_map (λ names. names) t.strategies)

-- each is the spelling of a label
abbrev pub AreSpellings : List (List ℕ) → Type 0
AreSpellings labels = AllByRecursion IsLabel labels

-- its labels are spellings of labels, and its payoffs are fractions
pub record IsSpellable (t : Table) : Type 0 where
  pub labels_spelled : AreSpellings (labels t)
  pub payoffs_are_fractions : AllByRecursion (λ row. AllByRecursion IsFraction row) (rows t)
