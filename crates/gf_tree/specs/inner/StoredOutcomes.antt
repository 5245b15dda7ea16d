-- How the outcomes that are known are stored.
use Rattle.std.specs.Prelude.{ℕ, ◌+◌, ◌<◌, ◌^◌, List, length, map, drop, slice_range}
use Rattle.gf_fraction.specs.Ratio.{Ratio}
use Rattle.gf_token.specs.Label.{label_of}
use Rattle.gf_tree.specs.declared.game.outcomes.StoredOutcome.{StoredOutcome}
use Rattle.gf_tree.specs.Description.{Outcome}
use Rattle.gf_tree.specs.FiniteMap.{Described}
use Rattle.gf_tree.specs.KnownOutcomes.{KnownOutcomes}
use Rattle.gf_tree.specs.inner.Stretches.{AreStretches}

-- after its payoffs
abbrev pub end_of : StoredOutcome → ℕ
end_of o = o.start + o.count

abbrev pub described : List Ratio → ℕ × StoredOutcome → Described ℕ Outcome
described payoffs e = record {
  key = e.0;
  description =
      record { name = label_of e.1.name; payoffs = slice_range payoffs e.1.start (end_of e.1) };
}

abbrev pub stored_outcomes : List (ℕ × StoredOutcome) → List Ratio → ℕ → KnownOutcomes
stored_outcomes entries payoffs from = record {
  known = map (described payoffs) entries;
  pending = drop from payoffs;
}

pub record AreOutcomes (entries : List (ℕ × StoredOutcome)) (payoffs : List Ratio) (from : ℕ)
    : Type 0 where
  pub stretches : AreStretches (λ e. e.1.start) (λ e. end_of e.1) entries payoffs from
  pub few : length entries < 2 ^ 32
