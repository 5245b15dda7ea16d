-- Which tables are the same, and which are the same in all that is played.
use Rattle.std.specs.Prelude.{◌≡◌, ◌↔◌, ℕ, List}
use Rattle.gf_fraction.specs.Ratio.{Ratio}
use Rattle.gf_nfg.specs.Table.{Table, PaysAt}

-- players, strategies and the payoffs at each profile are equal
pub record SamePlay (t u : Table) : Type 0 where
  pub players : t.players ≡ u.players
  pub strategies : t.strategies ≡ u.strategies
  pub payoffs : (profile : List ℕ) (payoffs : List Ratio)
      → PaysAt t profile payoffs ↔ PaysAt u profile payoffs

-- and the title and the comment too
pub record SameTable (t u : Table) : Type 0 where
  pub title : t.title ≡ u.title
  pub comment : t.comment ≡ u.comment
  pub play : SamePlay t u
