-- What is stored of outcomes, and what it says about those that are known.
use Rattle.gf_tree.proofs.lemmas.games.Members.{all_more}
use Rattle.gf_tree.proofs.lemmas.stores.Stretching.{items_after, up_to}
use Rattle.gf_tree.proofs.Common.{stored_outcomes, drop-append-le, KnownOutcomes, length-append, []}
use Rattle.gf_tree.proofs.Common.{slice_get-map, AreOutcomes, at_position, option_map, Described, ℕ}
use Rattle.gf_tree.proofs.Common.{slice_get, label_of, Outcome, length, Ratio, arith, List, drop}
use Rattle.gf_tree.proofs.Common.{refl, ◌++◌, map, ◌+◌, ◌-◌, ◌<◌, ◌^◌, ◌∙◌, ◌∷◌, ◌≡◌, ap}
use Rattle.std.specs.Map.{keys_of}
use Rattle.gf_tree.specs.declared.game.outcomes.StoredOutcome.{StoredOutcome}
use Rattle.gf_tree.specs.inner.StoredOutcomes.{described, end_of}
use Rattle.gf_tree.proofs.lemmas.stores.Places.{at_index}

abbrev Entry : Type 0
Entry = ℕ × StoredOutcome

abbrev pub made_of : Entry → List Ratio → Described ℕ Outcome
made_of e payoffs = record {
  key = e.0;
  description = record { name = label_of e.1.name; payoffs = payoffs };
}

numbers_are : (payoffs : List Ratio) (entries : List Entry)
    → keys_of entries ≡ map (λ o. o.key) (map (described payoffs) entries)
numbers_are payoffs [] = refl
numbers_are payoffs (e ∷ es) = ap (λ ns. e.0 ∷ ns) (numbers_are payoffs es)

module _ (entries : List Entry) (payoffs : List Ratio) (from : ℕ)
    (whole : KnownOutcomes) (view : stored_outcomes entries payoffs from ≡ whole) where
  pub numbers : keys_of entries ≡ map (λ o. o.key) whole.known
  numbers = numbers_are payoffs entries
      ∙ ap (λ (k : KnownOutcomes). map (λ (o : Described ℕ Outcome). o.key) k.known) view

  pub number_at : (i : ℕ) → 0 < i → at_position (map (λ o. o.key) whole.known) i
      ≡ option_map (λ e. e.0) (slice_get entries (i - 1))
  number_at i h = grind (arith, numbers, at_index, slice_get-map)

  module _ (are : AreOutcomes entries payoffs from) where
    pub payoff_pushed : (after : List Ratio) (payoff : Ratio) → after ≡ payoffs ++ payoff ∷ []
        → stored_outcomes entries after from
        ≡ record whole { pending = whole.pending ++ payoff ∷ [] }
    payoff_pushed after payoff is =
        let known =
        items_after (λ (e : Entry). e.1.start) (λ (e : Entry). end_of e.1) made_of entries payoffs
        (payoff ∷ []) from are.stretches in
        let rest : drop from (payoffs ++ payoff ∷ []) ≡ drop from payoffs ++ payoff ∷ [] =
        drop-append-le from payoffs (payoff ∷ []) are.stretches.within in
        let more : stored_outcomes entries (payoffs ++ payoff ∷ []) from ≡ record {
          known = map (described payoffs) entries;
          pending = drop from payoffs ++ payoff ∷ [];
        } = cc in
        cc (is, more)

    -- one more outcome, with the payoffs from here on
    pub outcome_stored : (new : Entry) (stored : List Entry) (last : ℕ)
        → stored ≡ entries ++ new ∷ [] → last ≡ length payoffs → new.1.start ≡ from
        → end_of new.1 ≡ last → length entries + 1 < 2 ^ 32 → AreOutcomes stored payoffs last
    outcome_stored new stored last is all starts ends room =
        grind (arith, all_more, up_to, length-append)
