-- A key's place among descriptions, and what is there.
use Rattle.gf_tree.proofs.Common.{◌≡◌, ℕ, suc, ◌+◌, Bool, true, false, List, [], ◌∷◌, map, Some}
use Rattle.gf_tree.proofs.Common.{None, Option, option_map, slice_get, refl, arith, position}
use Rattle.gf_tree.proofs.Common.{position_from, position_from-zero, Ratio, Action, InformationSet}
use Rattle.gf_tree.proofs.Common.{Outcome, set_with, Described, description_at, find, outcome_with}
use Rattle.gf_tree.proofs.lemmas.games.Uses.{IsEquality, either_way}

module _ {K D : Type 0} (same : K → K → Bool) (tells : IsEquality same) (key : K) where
  -- the place k from the start is the first one with the key
  abbrev pub IsFirst : List (Described K D) → ℕ → ℕ → Type 0
  IsFirst es start place =
      (k : ℕ) × (start + k ≡ place) × (find (λ e. same e.key key) es ≡ slice_get es k)

  first_of_more : (e : Described K D) (es : List (Described K D)) (start place : ℕ)
      → (position_from (same key) (start + 1) (map (λ e. e.key) es) ≡ Some place
      → IsFirst es (start + 1) place) → (b : Bool) → same key e.key ≡ b
      → position_from (same key) start (map (λ e. e.key) (e ∷ es)) ≡ Some place
      → IsFirst (e ∷ es) start place
  first_of_more e es start place later true q h = grind arith
  first_of_more e es start place later false q h =
      let r = later (rw q at h) in
      (suc r.0, omega (arith, r.1), rw (either_way same tells key e.key, q) r.2)

  pub found_from : (es : List (Described K D)) (start place : ℕ)
      → position_from (same key) start (map (λ e. e.key) es) ≡ Some place → IsFirst es start place
  found_from [] start place h = absurd cc
  found_from (e ∷ es) start place h =
      first_of_more e es start place (found_from es (start + 1) place) (same key e.key) refl h

  not_found_from : (es : List (Described K D)) (start : ℕ)
      → position_from (same key) start (map (λ e. e.key) es) ≡ None
      → find (λ e. same e.key key) es ≡ None
  not_found_from [] start h = refl
  not_found_from (e ∷ es) start h = grind (arith, not_found_from es (start + 1))

  pub described_at : (es : List (Described K D)) (place : ℕ)
      → position (same key) (map (λ e. e.key) es) ≡ Some place
      → description_at same es key ≡ option_map (λ e. e.description) (slice_get es place)
  described_at es place h = grind (arith, found_from, position_from-zero)

  pub not_described : (es : List (Described K D)) → position (same key) (map (λ e. e.key) es) ≡ None
      → description_at same es key ≡ None
  not_described es h = grind (arith, not_found_from, position_from-zero)

-- what stands at a place, by its parts
pub set_in_parts : {K : Type 0} (o : Option (Described K InformationSet)) (name : List ℕ)
    (actions : List Action) → option_map (λ s. s.description.name) o ≡ Some name
    → option_map (λ s. s.description.actions) o ≡ Some actions
    → option_map (λ s. s.description) o ≡ Some (set_with name actions)
set_in_parts o name actions h h2 = grind arith

pub outcome_in_parts : {K : Type 0} (o : Option (Described K Outcome)) (name : List ℕ)
    (payoffs : List Ratio) → option_map (λ s. s.description.name) o ≡ Some name
    → option_map (λ s. s.description.payoffs) o ≡ Some payoffs
    → option_map (λ s. s.description) o ≡ Some (outcome_with name payoffs)
outcome_in_parts o name payoffs h h2 = grind arith

pub ruleset outcomes_found = (described_at, not_described, outcome_in_parts)
