-- Rows of payoffs at profiles in turn, one after another.
use Rattle.std.specs.Prelude.{◌≡◌, ℕ, List, flat_map}
use Rattle.std.specs.List.{AllZip}
use Rattle.gf_fraction.specs.Ratio.{Ratio}

-- at each of these profiles, a row that is right there
pub record AreRowsAt (IsRight : List ℕ → List Ratio → Type 0) (profiles : List (List ℕ))
    (payoffs : List Ratio) : Type 0 where
  pub rows : List (List Ratio)
  pub joined : payoffs ≡ flat_map (λ row. row) rows
  pub right : AllZip IsRight profiles rows
