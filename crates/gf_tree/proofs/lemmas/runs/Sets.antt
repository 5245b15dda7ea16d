-- Runs over the information set of a node: its number, and its description.
use Rattle.gf_tree.proofs.Common
use Common.{IsInformationSet, KnownSetOpening, AllByRecursion, whole_fraction, InformationSet, List}
use Common.{description_at, OutcomeNumber, IsDescription, append_assoc, KnownSetName}
use Common.{count_again, IsFraction, NewSetName, IsPositive, set_number, run_tokens, ℕ}
use Common.{Described, SetNumber, same_set, past_set, then_run, count_is, ◌++◌}
use Common.{Opening, Closing, Content, length, Option, braced, SetKey, set_of, Learns, Some}
use Common.{subst, arith, Token, whole, IsSet, begun, None, refl, Text, Bare, ◌≡◌, ◌<◌, ◌≤◌, ◌∷◌}
use Common.{sym, ◌∙◌, inl, inr, ◌⊎◌, pos, Use, [], ap, at, set_with}
use Rattle.gf_tree.proofs.lemmas.games.TreesOnce.{same_set_equality}
use Rattle.gf_tree.proofs.lemmas.games.Members.{all_more}
use Rattle.gf_tree.proofs.lemmas.runs.Tokens.{Reads, refused, run_on, text_found, text_again}
use Rattle.gf_tree.proofs.lemmas.runs.Actions.{new_found, new_again}
use Rattle.gf_tree.proofs.lemmas.runs.KnownActions.{probabilities, known_found, known_again}
use Rattle.gf_tree.proofs.lemmas.runs.Learned.{one, use_of, learns_new, learns_again, one_use}
use Rattle.gf_tree.proofs.lemmas.runs.Learned.{IsNew, IsKnown, at_new, found_has}

-- these sets are known
abbrev pub with_sets : Content → List (Described SetKey InformationSet) → Content
with_sets c sets = record c { sets = sets }

abbrev pub AreSets : ℕ → List (Described SetKey InformationSet) → Type 0
AreSets players sets = AllByRecursion (λ s. IsSet players s.key s.description) sets

-- ---- after the number

-- the description of a set, or none, and what follows
pub record Past (ts : List Token) (name : List ℕ) (player n : ℕ) (c r : Content) : Type 0 where
  pub description : Option InformationSet
  pub tokens : List Token
  pub rest : List Token
  pub sets : List (Described SetKey InformationSet)
  pub set : InformationSet
  pub parts : ts ≡ tokens ++ rest
  pub is_description : IsDescription (IsInformationSet player) tokens description
  pub learns : Learns same_set c.sets (use_of (set_of player n) description ∷ []) sets
  pub is_known : description_at same_set sets (set_of player n) ≡ Some set
  pub are : AreSets (length c.players) sets
  pub goes_on : Reads (OutcomeNumber (begun name (set_of player n) set)) (with_sets c sets) rest r

zero_fraction : IsFraction (whole (pos 0))
zero_fraction = whole_fraction 0 (omega arith)

new_after : (ts : List Token) (name : List ℕ) (player n : ℕ) (c r : Content)
    → player ≤ length c.players → 0 < n → AreSets (length c.players) c.sets
    → description_at same_set c.sets (set_of player n) ≡ None
    → Reads (NewSetName name (set_of player n)) c ts r → Past ts name player n c r
new_after (Text label ∷ Opening ∷ ts) name player n c r among some are unknown e =
    let key = set_of player n in
    let h =
    new_found ts name player n (set_with label []) (whole (pos 0)) c r zero_fraction e in
    let set : InformationSet = set_with label h.actions in
    let is : IsSet (length c.players) key set = grind arith in
    record {
      description = Some set;
      tokens = Text label ∷ braced h.inner;
      rest = h.rest;
      sets = c.sets ++ one key set ∷ [];
      set = set;
      parts = cc (h.parts, append_assoc h.inner (Closing ∷ []) h.rest);
      is_description = (h.inner, refl, h.each);
      learns = learns_new same_set c.sets key set unknown;
      is_known = at_new same_set same_set_equality c.sets key set unknown;
      are =
          all_more (λ s. IsSet (length c.players) s.key s.description) c.sets (one key set) are is;
      goes_on = h.goes_on;
    }
new_after ts name player n c r among some are unknown e = absurd (refused _ r tt e)

known_after : (ts : List Token) (name : List ℕ)
    (player n : ℕ) (set : InformationSet) (c r : Content) → AreSets (length c.players) c.sets
    → description_at same_set c.sets (set_of player n) ≡ Some set
    → Reads (KnownSetName name (set_of player n) set) c ts r → Past ts name player n c r
known_after (Text label ∷ Opening ∷ ts) name player n set c r are known e =
    let key = set_of player n in
    let b = begun name key set in
    let is =
    found_has same_set same_set_equality (IsSet (length c.players)) c.sets key set are known in
    let h =
    text_found set.name label (at (KnownSetOpening b set.actions) c) (Opening ∷ ts) r e in
    let k =
    known_found set.actions player ts b c r (probabilities player set.actions is.actions) h.1 in
    record {
      description = Some set;
      tokens = Text set.name ∷ braced k.inner;
      rest = k.rest;
      sets = c.sets;
      set = set;
      parts = cc (h.0, k.parts, append_assoc k.inner (Closing ∷ []) k.rest);
      is_description = (k.inner, refl, k.each);
      learns = learns_again same_set c.sets key set (Some set) known (inr refl);
      is_known = known;
      are = are;
      goes_on = k.goes_on;
    }
known_after (Text label ∷ ts) name player n set c r are known e =
    let b = begun name (set_of player n) set in
    absurd (refused _ r tt
    (text_found set.name label (at (KnownSetOpening b set.actions) c) ts r e).1)
known_after (Bare t ∷ ts) name player n set c r are known e = grind arith
known_after ts name player n set c r are known e = absurd (refused _ r tt e)

-- ---- the number

-- the number of a set and its description, and what follows
pub record SetRead (ts : List Token) (name : List ℕ) (player : ℕ) (c r : Content) : Type 0 where
  pub number : List ℕ
  pub n : ℕ
  pub others : List Token
  pub first : ts ≡ Bare number ∷ others
  pub is_number : IsPositive number n
  pub behind : Past others name player n c r
  pub open behind use {description, tokens, rest, sets, set, is_description, learns, goes_on}

pub set_found : (ts : List Token) (name : List ℕ) (player : ℕ) (c r : Content)
    → player ≤ length c.players → AreSets (length c.players) c.sets
    → Reads (SetNumber name player) c ts r → SetRead ts name player c r
set_found (Bare t ∷ ts) name player c r among are e = grind (arith, count_is, new_after, known_after)
set_found _ name player c r among are e = absurd (refused _ r tt e)

-- ---- each set of a node is read

-- after the description stands the number of the outcome
past_again : (tokens rest : List Token) (t name : List ℕ) (u : Use SetKey InformationSet)
    (sets : List (Described SetKey InformationSet)) (set : InformationSet) (c : Content)
    → IsDescription (IsInformationSet u.key.player) tokens u.description
    → IsSet (length c.players) u.key set → description_at same_set sets u.key ≡ Some set
    → IsNew same_set c.sets u sets ⊎ IsKnown same_set c.sets u sets
    → run_tokens (past_set name u.key (description_at same_set c.sets u.key))
    c (tokens ++ Bare t ∷ rest)
    ≡ run_tokens (OutcomeNumber (begun name u.key set)) (with_sets c sets) (Bare t ∷ rest)
past_again tokens rest t name u sets set c is good known (inl h) = by u.description is h.told
  where
    by : (o : Option InformationSet) → IsDescription (IsInformationSet u.key.player) tokens o
        → o ≡ Some h.description
        → run_tokens (past_set name u.key (description_at same_set c.sets u.key))
        c (tokens ++ Bare t ∷ rest)
        ≡ run_tokens (OutcomeNumber (begun name u.key set)) (with_sets c sets) (Bare t ∷ rest)
    by None is told = absurd cc
    by (Some d) is told =
        let first : d ≡ h.description = cc in
        let there : description_at same_set sets u.key ≡ Some h.description =
        cc (at_new same_set same_set_equality c.sets u.key h.description h.unknown) in
        let same : d ≡ set =
        first ∙ (cc) in
        let good_set = subst (IsSet (length c.players) u.key) (sym same) good in
        let behind : List Token = is.0 ++ Closing ∷ (Bare t ∷ rest) in
        let text : tokens ++ Bare t ∷ rest ≡ Text d.name ∷ Opening ∷ behind =
        cc (append_assoc is.0 (Closing ∷ []) (Bare t ∷ rest)) in
        let again = new_again d.actions u.key.player is.0 (Bare t ∷ rest) name u.key.number
        (record { name = d.name; actions = [] }) (whole (pos 0)) c zero_fraction is.2
        (grind arith) good_set.some_action in
        cc
past_again tokens rest t name u sets set c is good known (inr h) =
    ap (λ o. run_tokens (past_set name u.key o) c (tokens ++ Bare t ∷ rest)) h.is_known
    ∙ by u.description is h.told ∙ ap (λ x.
    run_tokens (OutcomeNumber (begun name u.key h.description)) (with_sets c x) (Bare t ∷ rest))
    (sym h.no_more) ∙ ap (λ (x : InformationSet).
    run_tokens (OutcomeNumber (begun name u.key x)) (with_sets c sets) (Bare t ∷ rest))
    same
  where
    same : h.description ≡ set
    same = grind arith

    by : (o : Option InformationSet) → IsDescription (IsInformationSet u.key.player) tokens o
        → (o ≡ None) ⊎ (o ≡ Some h.description)
        → run_tokens (KnownSetName name u.key h.description) c (tokens ++ Bare t ∷ rest)
        ≡ run_tokens (OutcomeNumber (begun name u.key h.description)) c (Bare t ∷ rest)
    by None is told = grind arith
    by (Some d) is (inl told) = absurd cc
    by (Some d) is (inr told) = grind (arith, append_assoc, run_on, text_again, known_again)

pub set_again : (number tokens rest : _) (t name : List ℕ) (u : Use SetKey InformationSet)
    (sets : List (Described SetKey InformationSet)) (set : InformationSet) (c : Content)
    → IsPositive number u.key.number
    → IsDescription (IsInformationSet u.key.player) tokens u.description
    → AreSets (length c.players) sets
    → description_at same_set sets u.key ≡ Some set → Learns same_set c.sets (u ∷ []) sets
    → run_tokens (SetNumber name u.key.player) c (Bare number ∷ (tokens ++ Bare t ∷ rest))
    ≡ run_tokens (OutcomeNumber (begun name u.key set)) (with_sets c sets) (Bare t ∷ rest)
set_again number tokens rest t name u sets set c is_number is are known learns =
    let good =
    found_has same_set same_set_equality (IsSet (length c.players)) sets u.key set are known in
    ap (λ o. then_run (set_number c name u.key.player o) (run_on (tokens ++ Bare t ∷ rest)))
    (count_again number u.key.number is_number.1 is_number.0)
    ∙ past_again tokens rest t name u sets set c is good known
    (one_use same_set c.sets u sets learns)
