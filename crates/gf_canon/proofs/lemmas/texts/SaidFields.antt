-- The fields of a node's line spell tokens, and these say what stands in the line.
use Rattle.gf_canon.proofs.Common
use Common.{described_fields, AllByRecursion, InformationSet, IsSpellableAction, if◌then◌else◌, suc}
use Common.{outcome_fields, action_fields, mover_fields, set_fields, flat_map, IsLabel, append-nil}
use Common.{decimal, length, Action, codes, Token, false, List, Some, None, map, refl, Text, Bare}
use Common.{Bool, true, zero, each, all_of_each, all_weaker, ◌^◌, ◌<◌, ◌++◌, ◌≡◌, ◌∷◌, inl, [], ℕ}
use Rattle.gf_fraction.specs.NumberText.{number_text}
use Rattle.gf_fraction.specs.Ratio.{IsFraction}
use Rattle.gf_fraction.proofs.Offered.{written_is_read}
use Rattle.gf_token.specs.Grammar.{Each, IsPayoffInBraces, braced}
use Rattle.gf_token.proofs.Offered.{AreSaid, Says, both, label, list, none, one, says_word, word}
use Rattle.gf_token.proofs.Offered.{decimal_is_index, index_spelled, number_spelled}
use Rattle.gf_tree.specs.Description.{AreActions, Outcome}
use Rattle.gf_tree.specs.Sentence.{IsAction, IsDescription, IsInformationSet, IsOutcomeDescription}
use Rattle.gf_tree.specs.Sentence.{SpellsMover}
use Rattle.gf_tree.proofs.Offered.{HasProbability, probabilities}

-- these fields spell tokens of this kind
abbrev pub Say : List (List ℕ) → (List Token → Type 0) → Type 0
Say fields P = (tokens : List Token) × AreSaid fields tokens × P tokens

-- and so do fields for each of these values, one after another
module _ {X : Type 0} (P : List Token → X → Type 0) where
  more : (fields others : List (List ℕ)) (x : X) (xs : List X) → Say fields (λ ts. P ts x)
      → Say others (λ ts. Each P ts xs) → Say (fields ++ others) (λ ts. Each P ts (x ∷ xs))
  more fields others x xs h k = (h.0 ++ k.0, both h.1 k.1, (h.0, k.0, refl, h.2, k.2))

  pub say_each : (fields : X → List (List ℕ)) (xs : List X)
      → AllByRecursion (λ x. Say (fields x) (λ ts. P ts x)) xs
      → Say (flat_map fields xs) (λ ts. Each P ts xs)
  say_each fields [] h = ([], none, refl)
  say_each fields (x ∷ xs) h =
      more (fields x) (flat_map fields xs) x xs h.0 (say_each fields xs h.1)

  pub say_each_field : (field : X → List ℕ) (xs : List X)
      → AllByRecursion (λ x. (ts : List Token) × Says (field x) ts × P ts x) xs
      → Say (map field xs) (λ ts. Each P ts xs)
  say_each_field field [] h = ([], none, refl)
  say_each_field field (x ∷ xs) h =
      more (field x ∷ []) (map field xs) x xs (h.0.0, one (field x) h.0.0 h.0.1, h.0.2)
      (say_each_field field xs h.1)

-- ---- descriptions

action : (player : ℕ) (a : Action) → HasProbability player a → IsSpellableAction a
    → Say (action_fields a) (λ ts. IsAction player ts a)
action zero a p h =
    let is : IsFraction p.0 = rw p.1 at h.1 in (
      Text a.label ∷ Bare (number_text p.0) ∷ [],
      rw p.1 (both (label a.label h.0) (word (number_text p.0) (number_spelled p.0 is))),
      (number_text p.0, p.0, refl, written_is_read p.0 is, p.1),
    )
action (suc player) a none_there h =
    (Text a.label ∷ [], rw none_there (label a.label h.0), (refl, none_there))

pub say_set : (player : ℕ) (set : InformationSet) → AreActions player set.actions
    → IsLabel set.name → AllByRecursion IsSpellableAction set.actions
    → Say (set_fields set) (λ ts. IsInformationSet player ts set)
say_set player set are name can =
    let actions = say_each (IsAction player) action_fields set.actions
    (all_of_each _ set.actions (λ a m. action player a
    (each (HasProbability player) set.actions a (probabilities player set.actions are) m)
    (each IsSpellableAction set.actions a can m))) in (
      Text set.name ∷ braced actions.0,
      both (label set.name name) (list actions.1),
      (actions.0, refl, actions.2),
    )

pub say_outcome : (players : ℕ) (outcome : Outcome) → length outcome.payoffs ≡ players
    → IsLabel outcome.name → AllByRecursion IsFraction outcome.payoffs
    → Say (outcome_fields outcome) (λ ts. IsOutcomeDescription players ts outcome)
say_outcome players outcome one_each name are =
    let payoffs = say_each_field IsPayoffInBraces number_text outcome.payoffs
    (all_weaker IsFraction _ (λ r is. (
      Bare (number_text r) ∷ [],
      says_word (number_text r) (number_spelled r is),
      (number_text r, [], refl, written_is_read r is, inl refl),
    )) outcome.payoffs are) in (
      Text outcome.name ∷ braced payoffs.0,
      both (label outcome.name name) (list payoffs.1),
      (payoffs.0, refl, payoffs.2, one_each),
    )

-- ---- uses

pub say_index : (n : ℕ) → n < 2 ^ 32 → AreSaid (decimal n ∷ []) (Bare (decimal n) ∷ [])
say_index n h = word (decimal n) (index_spelled n h)

-- a number, described or used before
pub say_described : {D : Type 0} (fields : D → List (List ℕ)) (P : List Token → D → Type 0) (n : ℕ)
    (d : D) (before : Bool) → n < 2 ^ 32 → Say (fields d) (λ ts. P ts d)
    → (ts : List Token)
    × AreSaid (described_fields fields n (if before then None else Some d)) (Bare (decimal n) ∷ ts)
    × IsDescription P ts (if before then None else Some d)
say_described fields P n d true small h = ([], say_index n small, refl)
say_described fields P n d false small h =
    (h.0, both (say_index n small) (rw (append-nil (fields d)) h.1), h.2)

pub say_mover : (name : List ℕ) (player : ℕ) → IsLabel name → player < 2 ^ 32
    → (letter : List ℕ) × (ts : List Token)
    × AreSaid (mover_fields name player) (Bare letter ∷ Text name ∷ ts) × SpellsMover letter ts player
say_mover name zero h small =
    (codes "c", [], both (word (codes "c") (refl, tt)) (label name h), (refl, refl))
say_mover name (suc player) h small = (
  codes "p",
  Bare (decimal (suc player)) ∷ [],
  both (word (codes "p") (refl, tt)) (both (label name h) (say_index (suc player) small)),
  (decimal (suc player), refl, refl, decimal_is_index (suc player) small),
)
