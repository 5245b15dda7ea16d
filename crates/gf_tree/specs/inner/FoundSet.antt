-- A set or an outcome that is found among those that are known.
use Rattle.std.specs.Prelude.{◌≡◌, ◌+◌, ◌<◌, ◌≤◌, ℕ, List, length, nat_eq, option_map, Some}
use Rattle.std.specs.Prelude.{slice_get}
use Rattle.gf_token.specs.Positions.{at_position}
use Rattle.gf_tree.specs.Description.{InformationSet, Outcome, SetKey, same_set}
use Rattle.gf_tree.specs.FiniteMap.{Described, description_at}
use Rattle.gf_tree.specs.inner.Machine.{begun}
use Rattle.gf_tree.specs.inner.ReaderState.{begun_with}

pub record FoundSet (known : List (Described SetKey InformationSet)) (key : SetKey) (place : ℕ)
    : Type 0 where
  pub set : InformationSet
  pub described : description_at same_set known key ≡ Some set
  pub stands : option_map (λ s. s.description) (slice_get known place) ≡ Some set
  pub begins : (node : List ℕ) → begun_with known node (place + 1) ≡ begun node key set
  pub within : place < length known

pub record FoundOutcome (known : List (Described ℕ Outcome)) (number place : ℕ) : Type 0 where
  pub outcome : Outcome
  pub described : description_at nat_eq known number ≡ Some outcome
  pub stands : option_map (λ o. o.description) (slice_get known place) ≡ Some outcome
  pub key : option_map (λ o. o.key) (at_position known (place + 1)) ≡ Some number
  pub within : place + 1 ≤ length known
