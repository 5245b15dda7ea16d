-- What the reader keeps still stands for the same when more is known.
use Rattle.gf_tree.proofs.Common
use Common.{get_or_from_slice_get, with_pending_set, actions_counted, InformationSet, KnownOutcomes}
use Common.{description_at, OutcomeNumber, UnknownPlayer, player_number, slice_get-map, Decides-eqb}
use Common.{KnownSetName, PlayerNumber, StandsBefore, entries_with, new_set_ends, outcome_with, Err}
use Common.{with_outcome, at_position, with_action, actions_of, begun_with, content_of, length-map}
use Common.{option_map, set_number, Described, KnownSets, NewAction, Remaining, SetNumber, AreAmong}
use Common.{set_known, slice_get, Position, count_of, label_of, past_set, position, same_set, Begun}
use Common.{set_with, then_run, with_set, Closing, Content, Outcome, Action, Answer, Lexeme, Memory}
use Common.{Option, Reader, Result, SetKey, length, lexeme, nat_eq, placed, set_of, Fails, Fault, ℕ}
use Common.{Grows, Ratio, State, arith, begun, false, heard, subst, Bare, Bool, Game, Kept, List}
use Common.{None, Some, Span, refl, true, ◌++◌, ◌==◌, Why, map, run, suc, sym, ◌+◌, ◌<◌, ◌∙◌, ◌∷◌}
use Common.{◌≡◌, ◌≤◌, Ok, [], ap, at}
use Rattle.std.specs.Prelude.{OnOk, IfOk, IfNone, MatchResult}
use Rattle.std.proofs.lemmas.Bool.Decides.{nat_tests}
use Rattle.gf_token.specs.Offered.{of_file}
use Rattle.std.proofs.lemmas.List.Quantifiers.{position-Some}
use Rattle.gf_tree.specs.KnownOutcomes.{with_pending_outcome}
use Rattle.gf_token.specs.ReadAs.{IsReadAs}
pub use Rattle.gf_token.proofs.Offered.{carried, fails_back, goes_back, refused_why}
use Rattle.gf_token.proofs.Offered.{passed_before}
use Rattle.gf_tree.specs.inner.Machine.{at_end, next}
use Rattle.gf_token.specs.declared.token.TextToken.{TextToken}
use Rattle.gf_tree.specs.inner.AddsUp.{adds_up}
use Rattle.gf_tree.specs.inner.FoundSet.{FoundOutcome, FoundSet}
use Rattle.gf_tree.specs.inner.ReaderState.{with_text}
use Rattle.gf_tree.proofs.lemmas.stores.FoundKeys.{described_at, not_described}
use Rattle.gf_tree.proofs.lemmas.games.TreesOnce.{same_set_equality}
use Rattle.gf_tree.proofs.lemmas.games.Members.{something_there}
use Rattle.gf_tree.proofs.lemmas.games.Uses.{IsEquality}
use Rattle.gf_tree.specs.declared.game.action.Action as held

-- ---- lists that grow at the end

pub get_before : {A : Type 0} (xs ys : List A) (k : ℕ) → k < length xs
    → slice_get (xs ++ ys) k ≡ slice_get xs k
get_before (x ∷ xs) ys (suc k) h = get_before xs ys k (omega (arith, h))
get_before xs ys k h = grind arith

pub get_next : {A : Type 0} (xs : List A) (x : A) → slice_get (xs ++ x ∷ []) (length xs) ≡ Some x
get_next [] x = refl
get_next (y ∷ xs) x = get_next xs x

pub at_before : {A : Type 0} (xs ys : List A) (p : ℕ) → p ≤ length xs
    → at_position (xs ++ ys) p ≡ at_position xs p
at_before xs ys p h = grind (arith, get_before)

at_next : {A : Type 0} (xs : List A) (k : ℕ) → at_position xs (k + 1) ≡ slice_get xs k
at_next xs k = grind arith

-- ---- nodes when more is known

pub sets_grow : (sets more : List (Described SetKey InformationSet))
    (outcomes : List (Described ℕ Outcome)) (nodes : List Kept)
    → AreAmong (length sets) (length outcomes) nodes
    → entries_with (sets ++ more) outcomes nodes ≡ entries_with sets outcomes nodes
sets_grow sets more outcomes [] h = refl
sets_grow sets more outcomes (n ∷ ns) h = λ i.
    record {
      node = record {
        name = n.name;
        set = option_map (λ s. s.key) (at_before sets more n.set h.0.set i);
        outcome = option_map (λ o. o.key) (at_position outcomes n.outcome);
      };
      children = actions_counted (at_before sets more n.set h.0.set i);
    } ∷ sets_grow sets more outcomes ns h.1 i

pub outcomes_grow : (sets : List (Described SetKey InformationSet))
    (outcomes more : List (Described ℕ Outcome)) (nodes : List Kept)
    → AreAmong (length sets) (length outcomes) nodes
    → entries_with sets (outcomes ++ more) nodes ≡ entries_with sets outcomes nodes
outcomes_grow sets outcomes more [] h = refl
outcomes_grow sets outcomes more (n ∷ ns) h = λ i.
    record {
      node = record {
        name = n.name;
        set = option_map (λ s. s.key) (at_position sets n.set);
        outcome = option_map (λ o. o.key) (at_before outcomes more n.outcome h.0.outcome i);
      };
      children = actions_counted (at_position sets n.set);
    } ∷ outcomes_grow sets outcomes more ns h.1 i

pub placed_among_more : (sets outcomes more_sets more_outcomes : ℕ) (nodes : List Kept)
    → sets ≤ more_sets → outcomes ≤ more_outcomes
    → AreAmong sets outcomes nodes → AreAmong more_sets more_outcomes nodes
placed_among_more s o t p [] hs ho h = tt
placed_among_more s o t p (n ∷ ns) hs ho h = grind (arith, placed_among_more s o t p ns hs ho h.1)

pub placed_one_more : (sets outcomes : ℕ) (nodes : List Kept) (n : Kept)
    → AreAmong sets outcomes nodes → n.set ≤ sets → n.outcome ≤ outcomes
    → AreAmong sets outcomes (nodes ++ n ∷ [])
placed_one_more s o [] n h set outcome = (record { set = set; outcome = outcome }, tt)
placed_one_more s o (m ∷ ms) n h set outcome = (h.0, placed_one_more s o ms n h.1 set outcome)

-- ---- the set of a node

-- the first place of a key has it
pub key_at : {K D : Type 0} (same : K → K → Bool) → IsEquality same → (key : K)
    (es : List (Described K D)) (place : ℕ) (s : Described K D)
    → position (same key) (map (λ e. e.key) es) ≡ Some place → slice_get es place ≡ Some s
    → s.key ≡ key
key_at {K} {D} same tells key es place s h is =
    let keys = map (λ (e : Described K D). e.key) es in
    let there : slice_get keys place ≡ Some s.key =
    cc (slice_get-map (λ (e : Described K D). e.key) es place, is) in
    let stands = (position-Some (same key) keys place s.key h).1 in
    sym ((tells key s.key).0 (rw (get_or_from_slice_get keys place s.key s.key there) at stands))

pub found_set : (known : List (Described SetKey InformationSet)) (key : SetKey) (place : ℕ)
    → position (same_set key) (map (λ s. s.key) known) ≡ Some place → FoundSet known key place
found_set known key place at =
    let within : place < length known = grind (arith, length-map, position-Some) in
    let t = something_there known place within in
    let key_is = key_at same_set same_set_equality key known place t.0 at t.1 in
    record {
      set = t.0.description;
      described = cc (described_at same_set same_set_equality key known place at, t.1);
      stands = ap (option_map (λ x. x.description)) t.1;
      begins = λ node. cc (at_next known place, t.1, key_is);
      within = within;
    }

-- ---- a set that is kept

module _ {E : Type 0} (r : Reader) (sets : KnownSets) (key : SetKey) (name : List ℕ) where
  pub kept_content : (result : Result ℕ E) → OnOk result (sets ≡ with_pending_set r.sets key name)
      → OnOk result (content_of (record r { sets = sets })
      ≡ with_set (content_of r) key (set_with name r.sets.pending))
  kept_content (Err e) h = tt
  kept_content (Ok place) h = ap (λ (k : KnownSets). content_of (record r { sets = k })) h

  pub kept_grows : (result : Result ℕ E) → OnOk result (sets ≡ with_pending_set r.sets key name)
      → OnOk result (Grows r.sets.known sets.known)
  kept_grows (Err e) h = tt
  kept_grows (Ok place) h = record { more = _; parts = ap (λ (k : KnownSets). k.known) h }

  pub kept_begun : (node : List ℕ) (result : Result ℕ E)
      → OnOk result (sets ≡ with_pending_set r.sets key name)
      → IfOk result (λ place. place ≡ length r.sets.known) → IfOk result (λ place.
      begun_with sets.known node (place + 1) ≡ begun node key (set_with name r.sets.pending))
  kept_begun node (Err e) h is = tt
  kept_begun node (Ok place) h is =
      grind (arith, at_next, get_next)

-- ---- an outcome that is kept

module _ {E : Type 0} (r : Reader) (outcomes : KnownOutcomes) (number : ℕ) (name : List ℕ) where
  pub kept_outcome_content : (result : Result ℕ E)
      → OnOk result (outcomes ≡ with_pending_outcome r.outcomes number name)
      → OnOk result (content_of (record r { outcomes = outcomes })
      ≡ with_outcome (content_of r) number (outcome_with name r.outcomes.pending))
  kept_outcome_content (Err e) h = tt
  kept_outcome_content (Ok place) h = cc

  pub kept_outcome_grows : (result : Result ℕ E)
      → OnOk result (outcomes ≡ with_pending_outcome r.outcomes number name)
      → OnOk result (Grows r.outcomes.known outcomes.known)
  kept_outcome_grows (Err e) h = tt
  kept_outcome_grows (Ok place) h = grind arith

  pub kept_outcome_key : (result : Result ℕ E)
      → OnOk result (outcomes ≡ with_pending_outcome r.outcomes number name)
      → IfOk result (λ place. place ≡ length r.outcomes.known) → IfOk result
      (λ place. option_map (λ o. o.key) (at_position outcomes.known (place + 1)) ≡ Some number)
  kept_outcome_key (Err e) h is = tt
  kept_outcome_key (Ok place) h is = grind (arith, at_next, get_next)

pub if_none : {A : Type 0} {P : Type 0} (o : Option A) → P → IfNone o P
if_none o p = grind arith

-- ---- a token is taken

pub taken : {t u : Remaining} {l : Lexeme} → t.ahead ≡ l ∷ u.ahead → u.input ≡ t.input
    → t ≡ record { input = u.input; ahead = l ∷ u.ahead }
taken {t} {u} {l} ahead input = λ i. record { input = sym input i; ahead = ahead i }

-- ---- a set that is known

-- after its number its description, if there is one, was read
pub set_known_again : (c : Content) (node : List ℕ) (key : SetKey) (place : ℕ)
    (rest behind : Remaining) (found : FoundSet c.sets key place)
    → heard (KnownSetName node key found.set) c rest
    ≡ heard (OutcomeNumber (begun node key found.set)) c behind
    → heard (past_set node key (description_at same_set c.sets key)) c rest
    ≡ heard (OutcomeNumber (begun_with c.sets node (place + 1))) c behind
set_known_again c node key place rest behind found goes =
    cc (found.described, goes, found.begins node)

-- its number is read
pub set_again : (c : Content) (node : List ℕ) (player n a b : ℕ) (t : List ℕ)
    (all rest : Remaining) (after : Answer)
    → all ≡ record { input = rest.input; ahead = lexeme a b (Bare t) ∷ rest.ahead }
    → Some n ≡ count_of t → heard (past_set node (set_of player n)
    (description_at same_set c.sets (set_of player n))) c rest ≡ after
    → heard (SetNumber node player) c all ≡ after
set_again c node player n a b t all rest after is number goes =
    grind (arith, placed, set_number)

-- ---- the number of a player

-- what follows from it
module _ (c : Content) (node : List ℕ) (n a b : ℕ) (t : List ℕ) (all rest : Remaining)
    (is : all ≡ record { input = rest.input; ahead = lexeme a b (Bare t) ∷ rest.ahead })
    (number : Some n ≡ count_of t) where
  after : (r : Result State Why) → player_number c node (Some n) ≡ r
      → heard (PlayerNumber node) c all ≡ record {
        input = rest.input;
        machine = then_run (placed a b r)
            (λ s. run (length rest.input) s.position s.content rest.ahead);
      }
  after r e =
      ap (heard (PlayerNumber node) c) is
      ∙ ap (λ (o : Result State Why). record {
        input = rest.input;
        machine = then_run (placed a b o)
            (λ s. run (length rest.input) s.position s.content rest.ahead);
      }) (ap (player_number c node) (sym number) ∙ e)

  pub player_again : n ≤ length c.players
      → heard (PlayerNumber node) c all ≡ heard (SetNumber node n) c rest
  player_again within = after (Ok (at (SetNumber node n) c)) (grind (arith, nat_tests))

  pub player_unknown : (f : Fault)
      → f ≡ record { span = record { start = a; end = b }; why = UnknownPlayer }
      → length c.players < n → Fails f (heard (PlayerNumber node) c all)
  player_unknown f same above = of_file
      (ap (λ (x : Answer). x.machine) (after (Err UnknownPlayer) (grind (arith, nat_tests)))
      ∙ ap (λ (g : Fault). Err g) (sym same))

-- ---- a new set is whole

new_ended : (c : Content) (node : List ℕ) (player n : ℕ) (set : InformationSet)
    (held : List held.Action) (actions : List Action) (sum : Ratio)
    → false ≡ (length held == 0) → actions_of held ≡ actions → true ≡ adds_up player sum
    → new_set_ends c node (set_of player n) set actions sum
    ≡ Ok (set_known c node (set_of player n) set)
new_ended c node player n set (h ∷ hs) (a ∷ actions) sum some is adds = grind arith
new_ended c node player n set held actions sum some is adds = absurd cc

pub set_end : (c d : Content) (node : List ℕ) (player n : ℕ) (name : List ℕ)
    (actions : List Action) (sum : Ratio) (a b : ℕ) (all rest behind : Remaining)
    (held : List held.Action) (next : Begun)
    → all ≡ record { input = rest.input; ahead = lexeme a b Closing ∷ rest.ahead }
    → false ≡ (length held == 0) → actions_of held ≡ actions → true ≡ adds_up player sum
    → d ≡ with_set c (set_of player n) (set_with name actions)
    → next ≡ begun node (set_of player n) (set_with name actions) → behind ≡ rest
    → heard (NewAction node (set_of player n) (set_with name actions) sum) c all
    ≡ heard (OutcomeNumber next) d behind
set_end c d node player n name actions sum a b all rest behind held next is some acts adds content
    begins same =
    grind (arith, placed, new_ended)

-- ---- answers carried back

pub goes_on : (result : Result ℕ Fault) (a b : Answer) (f : ℕ → Answer)
    → a ≡ b → MatchResult result (λ p. b ≡ f p) (λ g. Fails g b)
    → MatchResult result (λ p. a ≡ f p) (λ g. Fails g a)
goes_on result a b f e h = grind arith

-- ---- an outcome that is known

pub found_outcome : (known : List (Described ℕ Outcome)) (number place : ℕ)
    → position (nat_eq number) (map (λ o. o.key) known) ≡ Some place
    → FoundOutcome known number place
found_outcome known number place at =
    let t = something_there known place within in
    record {
      outcome = t.0.description;
      described = cc (described_at nat_eq Decides-eqb number known place at, t.1);
      stands = ap (option_map (λ x. x.description)) t.1;
      key = cc (at_next known place, t.1, key_at nat_eq Decides-eqb number known place t.0 at t.1);
      within = omega (arith, within);
    }
  where
    within : place < length known
    within = grind (arith, length-map, position-Some)

pub ruleset outcomes_known = (not_described, found_outcome)

-- ---- the whole file

-- if the file is refused
pub refused_only : (f : Fault) (g : Game) (result : Result Game Fault) → result ≡ Err f
    → f.why ≡ Memory → IsReadAs result g
refused_only f g result e h = subst (λ r. IsReadAs r g) (sym e) h

-- ---- memory that runs out

-- at a token after which the machine goes on
pub lacks_memory : {f : Fault} {span : Span} {t : Remaining} {a : Answer} → StandsBefore t span
    → f ≡ record { span = span; why = Memory } → (q : Position) (c : Content) → a ≡ heard q c t
    → Fails f a
lacks_memory {f} {span} {t} {a} stands is q c goes =
    grind (arith, passed_before, next, at_end, carried)

-- at the label of a player's action
pub labelled : (t : Remaining) (label : TextToken) (c : Content) (node : List ℕ) (player n : ℕ)
    (set : InformationSet) (sum : Ratio) → (player ≡ 0 → ⊥)
    → heard (NewAction node (set_of player n) set sum) c (with_text t label)
    ≡ heard (NewAction node (set_of player n) (with_action set (label_of label.label) None) sum) c t
labelled t label c node player n set sum h = grind arith

pub ruleset sets_known = (not_described, same_set_equality, if_none, found_set)
