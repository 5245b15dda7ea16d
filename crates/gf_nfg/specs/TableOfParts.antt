-- A table that is made of its parts.
use Rattle.std.specs.Prelude.{◌≡◌, ℕ, List}
use Rattle.std.specs.List.{flat_map}
use Rattle.gf_fraction.specs.Ratio.{Ratio}
use Rattle.gf_nfg.specs.Table.{Table, IsTable, rows}

-- a table made of its parts, the payoffs in the order of a file
pub record IsTableOf (t : Table) (title comment : List ℕ) (players : List (List ℕ))
    (strategies : List (List (List ℕ))) (payoffs : List Ratio) : Type 0 where
  pub title_is : t.title ≡ title
  pub comment_is : t.comment ≡ comment
  pub players_are : t.players ≡ players
  pub strategies_are : t.strategies ≡ strategies
  pub payoffs_are : flat_map (λ row. row) (rows t) ≡ payoffs
  pub is_table : IsTable t
