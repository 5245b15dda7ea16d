-- The outcomes that are known, in order of first use.
use Rattle.std.specs.Prelude.{ℕ, List, [], ◌∷◌, ◌++◌}
use Rattle.gf_fraction.specs.Ratio.{Ratio}
use Rattle.gf_tree.specs.Description.{Outcome}
use Rattle.gf_tree.specs.FiniteMap.{Described}

-- each number with its description; and the payoffs so far of one whose description is being read
pub record KnownOutcomes : Type 0 where
  pub known : List (Described ℕ Outcome)
  pub pending : List Ratio

-- with one more payoff of the outcome whose description is being read
abbrev pub with_pending_payoff : KnownOutcomes → Ratio → KnownOutcomes
with_pending_payoff k payoff = record k { pending = k.pending ++ payoff ∷ [] }

-- with this outcome, which the pending payoffs describe
abbrev pub with_pending_outcome : KnownOutcomes → ℕ → List ℕ → KnownOutcomes
with_pending_outcome k number name = record {
  known = k.known
      ++ record { key = number; description = record { name = name; payoffs = k.pending } } ∷ [];
  pending = [];
}
