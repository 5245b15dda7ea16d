-- What a reader has told of the nodes of a file, and that the machine goes on after it.
use Rattle.gf_tree.proofs.Common
use Common.{InformationSet, take-append-le, length-append, append_assoc, entries_with, after_nodes}
use Common.{at_position, child_count, ByFirstUse, append-nil, begun_with, content_of, entry_with, ℕ}
use Common.{option_map, Described, told_from, told_node, with_node, AreAmong, Position, HasRead, Ok}
use Common.{Heading, IsAmong, NodeDue, Outcome, Answer, Lexeme, Reader, Result, SetKey, answer, Err}
use Common.{length, Fault, Grows, arith, heard, Goes, Kept, List, Told, refl, ◌++◌, map, max}
use Common.{sym, ◌+◌, ◌-◌, ◌∙◌, ◌∷◌, ◌≡◌, ◌≤◌, [], ap}
use Rattle.std.specs.Prelude.{OnOk}
use Rattle.gf_tree.specs.inner.ReaderState.{GoesTelling, HasTold, IsNoLonger, ReadsTokens, Tells}
use Rattle.gf_tree.specs.inner.ReaderState.{TellsNode, with_children, with_front}
use Rattle.gf_tree.specs.Told.{kept_as, used_outcomes_from, used_sets_from}
use Rattle.gf_tree.proofs.lemmas.reader.Steps.{at_before, outcomes_grow, placed_among_more}
use Rattle.gf_tree.proofs.lemmas.reader.Steps.{placed_one_more, sets_grow}
use Rattle.gf_tree.proofs.lemmas.runs.Earlier.{heard_more}

-- ---- what was told stays when more is known

module _ (sets more_sets : List (Described SetKey InformationSet))
    (outcomes more_outcomes : List (Described ℕ Outcome)) where
  node_stays : (used_sets used_outcomes : ℕ) (n : Kept) → IsAmong (length sets) (length outcomes) n
      → told_node ByFirstUse (sets ++ more_sets) (outcomes ++ more_outcomes) used_sets
      used_outcomes n
      ≡ told_node ByFirstUse sets outcomes used_sets used_outcomes n
  node_stays used_sets used_outcomes n h = grind (arith, at_before, take-append-le)

  told_stays : (used_sets used_outcomes : ℕ) (ns : List Kept)
      → AreAmong (length sets) (length outcomes) ns
      → told_from ByFirstUse (sets ++ more_sets) (outcomes ++ more_outcomes) used_sets
      used_outcomes ns
      ≡ told_from ByFirstUse sets outcomes used_sets used_outcomes ns
  told_stays used_sets used_outcomes [] h = refl
  told_stays used_sets used_outcomes (n ∷ ns) h = λ i.
      node_stays used_sets used_outcomes n h.0 i
      ∷ told_stays (max used_sets n.set) (max used_outcomes n.outcome) ns h.1 i

-- ---- one more node

module _ (sets : List (Described SetKey InformationSet)) (outcomes : List (Described ℕ Outcome))
    (n : Kept) where
  told_more : (used_sets used_outcomes : ℕ) (ns : List Kept)
      → told_from ByFirstUse sets outcomes used_sets used_outcomes (ns ++ n ∷ [])
      ≡ told_from ByFirstUse sets outcomes used_sets used_outcomes ns
      ++ told_node ByFirstUse sets outcomes (used_sets_from used_sets ns)
      (used_outcomes_from used_outcomes ns) n ∷ []
  told_more used_sets used_outcomes [] = refl
  told_more used_sets used_outcomes (m ∷ ms) =
      cc (told_more (max used_sets m.set) (max used_outcomes m.outcome) ms)

sets_more : (n : Kept) (used : ℕ) (ns : List Kept)
    → used_sets_from used (ns ++ n ∷ []) ≡ max (used_sets_from used ns) n.set
sets_more n used [] = refl
sets_more n used (m ∷ ms) = sets_more n (max used m.set) ms

outcomes_more : (n : Kept) (used : ℕ) (ns : List Kept)
    → used_outcomes_from used (ns ++ n ∷ []) ≡ max (used_outcomes_from used ns) n.outcome
outcomes_more n used [] = refl
outcomes_more n used (m ∷ ms) = outcomes_more n (max used m.outcome) ms

entries_more : (sets : List (Described SetKey InformationSet))
    (outcomes : List (Described ℕ Outcome)) (ns : List Kept) (n : Kept)
    → entries_with sets outcomes (ns ++ n ∷ [])
    ≡ entries_with sets outcomes ns ++ entry_with sets outcomes n ∷ []
entries_more sets outcomes [] n = refl
entries_more sets outcomes (m ∷ ms) n = grind (arith, entries_more sets outcomes ms n)

-- ---- lists that grow

pub grows_none : {A : Type 0} (xs : List A) → Grows xs xs
grows_none xs = record { more = []; parts = sym (append-nil xs) }

pub grows_same : {A : Type 0} {xs ys : List A} → xs ≡ ys → Grows xs ys
grows_same {A} {xs} {ys} e = record { more = []; parts = sym e ∙ sym (append-nil xs) }

grows_length : {A : Type 0} {xs ys : List A} → Grows xs ys → length xs ≤ length ys
grows_length {A} {xs} {ys} h = grind (arith, length-append)

-- ---- tokens that are taken

pub shorter_by : {l : Lexeme} {xs ys : List Lexeme} → xs ≡ l ∷ ys → length ys ≤ length xs
shorter_by {l} {xs} {ys} e = omega (arith, ap length e)

pub reads_none : {r : Reader} → ReadsTokens r r
reads_none {r} = (refl, omega arith)

-- ---- a node that is told

-- the machine, when this node has just become whole
pub told_goes : (r : Reader) (told_sets told_outcomes : ℕ) (node : Kept) (q : Position)
    → heard q (with_node (content_of r) (begun_with r.sets.known node.name node.set)
    (option_map (λ o. o.key) (at_position r.outcomes.known node.outcome))) r.tokens
    ≡ after_nodes (entry_with r.sets.known r.outcomes.known node ∷ []) (answer q
    (with_children (record r { told_sets = told_sets; told_outcomes = told_outcomes }) node.set))
told_goes r told_sets told_outcomes node q =
    let children = child_count r.sets.known node.set in
    let due : children + (r.due - 1) ≡ r.due - 1 + children = omega arith in
    let entry = entry_with r.sets.known r.outcomes.known node in
    ap (λ (n : ℕ). heard q (with_front (entry ∷ []) (record (content_of r) { due = n })) r.tokens)
    due ∙ heard_more (entry ∷ []) q (record (content_of r) { due = r.due - 1 + children }) r.tokens

module _ {T : Type 0} {holds : T → T → Heading → List Told → Type 0} {before : Answer}
    {from to : T} where
  -- a node that is told is told to what was known before
  pub tells : (q : Position) {old r m new : Reader} {node : Kept} → r.told_sets ≡ old.told_sets
      → r.told_outcomes ≡ old.told_outcomes → Grows old.sets.known r.sets.known
      → Grows old.outcomes.known r.outcomes.known
      → IsAmong (length r.sets.known) (length r.outcomes.known) node
      → TellsNode holds r m from to node
      → before ≡ heard q (with_node (content_of r) (begun_with r.sets.known node.name node.set)
      (option_map (λ o. o.key) (at_position r.outcomes.known node.outcome))) r.tokens
      → ReadsTokens m new
      → answer q (with_children m node.set) ≡ answer NodeDue (with_children new node.set)
      → r.due ≡ old.due → IsNoLonger old r → Tells holds node.set before old new from to
  tells q {old} {r} {m} {new} {node} told_sets told_outcomes sets outcomes placed h e kept goes due
      shorter = grind arith

  -- the same if a description that is repeated comes after it
  pub tells_again : {A : Type 0} (q : Position) (r m new : Reader) (node : Kept)
      (result : Result A Fault) → IsAmong (length r.sets.known) (length r.outcomes.known) node
      → TellsNode holds r m from to node
      → before ≡ heard q (with_node (content_of r) (begun_with r.sets.known node.name node.set)
      (option_map (λ o. o.key) (at_position r.outcomes.known node.outcome))) r.tokens
      → OnOk result (ReadsTokens m new)
      → Goes (answer q (with_children m node.set)) result
      (heard NodeDue (content_of (with_children m node.set)) new.tokens)
      → GoesTelling holds result (λ _. node.set) before r new from to
  tells_again q r m new node (Ok x) placed h e read goes =
      tells q refl refl (grows_none r.sets.known) (grows_none r.outcomes.known) placed h e read
      (goes ∙ ap (λ (k : Reader). answer NodeDue (with_children k node.set)) (sym read.0)) refl
      (omega arith)
  tells_again q r m new node (Err f) placed h e read goes = grind arith

-- ---- the nodes of a file

module _ {T : Type 0} (holds : T → T → Heading → List Told → Type 0) (untold : T)
    (heading : Heading) where
  told_one_more : {old new : Reader} {from to : T} {nodes : List Kept} {before : Answer}
      {set : ℕ} → HasTold (λ t told. holds untold t heading told) old from nodes
      → (h : Tells holds set before old new from to)
      → HasTold (λ t told. holds untold t heading told) (with_children new set) to
      (nodes ++ h.node ∷ [])
  told_one_more {old} {new} {from} {to} {nodes} {before} {set} k h = record {
    placed = grind (arith, placed_one_more, placed_among_more, grows_length);
    told = grind (arith, told_more, told_stays);
    told_sets = cc (h.told_sets, k.told_sets, sets_more h.node 0 nodes);
    told_outcomes = cc (h.told_outcomes, k.told_outcomes, outcomes_more h.node 0 nodes);
  }

  pub read_one_more : {start : Answer} {old new : Reader} {from to : T} {set : ℕ}
      → HasRead (λ t told. holds untold t heading told) start NodeDue old from
      → Tells holds set (answer NodeDue old) old new from to
      → HasRead (λ t told. holds untold t heading told) start NodeDue (with_children new set) to
  read_one_more {start} {old} {new} {from} {to} {set} k h = record {
    nodes = k.nodes ++ h.node ∷ [];
    goes = grind (
      arith,
      k.goes,
      outcomes_grow,
      placed_among_more,
      grows_length,
      sets_grow,
      h.goes,
      append_assoc,
      entries_more new.sets.known new.outcomes.known k.nodes h.node,
    );
    has_told = told_one_more k.has_told h;
  }

-- ---- nodes that are kept

pub kept_told : (sets : List (Described SetKey InformationSet))
    (outcomes : List (Described ℕ Outcome)) (used_sets used_outcomes : ℕ) (ns : List Kept)
    → map kept_as (told_from ByFirstUse sets outcomes used_sets used_outcomes ns) ≡ ns
kept_told sets outcomes used_sets used_outcomes [] = refl
kept_told sets outcomes used_sets used_outcomes (n ∷ ns) = ap (λ (ks : List Kept). n ∷ ks)
    (kept_told sets outcomes (max used_sets n.set) (max used_outcomes n.outcome) ns)
