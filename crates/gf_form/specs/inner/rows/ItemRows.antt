-- So many more items at the end of a list, each as it has to be at its place, from 0.
use Rattle.std.specs.Prelude.{◌≡◌, ℕ, ◌<◌, List, ◌++◌, get_or, length}

pub record HasRow {A : Type 0} (IsAt : ℕ → A → Type 0) (count : ℕ) (old new : List A) : Type 0 where
  pub row : List A
  pub is : new ≡ old ++ row
  pub one_each : length row ≡ count
  pub each : (k : ℕ) (d : A) → k < count → IsAt k (get_or row k d)
