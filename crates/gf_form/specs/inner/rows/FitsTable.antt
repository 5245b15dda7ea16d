-- What the labels and the payoffs of a table have to be.
use Rattle.std.specs.Prelude.{◌≡◌, ℕ, ◌*◌, ◌<◌, ◌≤◌, List, length, map}
use Rattle.std.specs.List.{AllByRecursion}
use Rattle.gf_fraction.specs.Ratio.{Ratio, IsFraction}
use Rattle.gf_nfg.specs.Limit.{profile_limit}
use Rattle.gf_nfg.specs.Profiles.{product}

-- labels for the strategies of this many players, and a row of payoffs for each profile
pub record FitsTable (players : ℕ) (labels : List (List (List ℕ))) (payoffs : List Ratio)
    : Type 0 where
  pub one_list_each : length labels ≡ players
  pub some_strategy : AllByRecursion (λ own. 0 < length own) labels
  pub profiles : product (map length labels) ≤ profile_limit
  pub fractions : AllByRecursion IsFraction payoffs
  pub rows : length payoffs ≡ product (map length labels) * players
