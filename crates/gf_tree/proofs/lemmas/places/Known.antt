-- What is known at a place is what the nodes before it describe.
use Rattle.gf_tree.proofs.lemmas.runs.Ends.{after_players, zero_is_index, Completed, nodes_end}
use Rattle.gf_tree.proofs.lemmas.runs.Ends.{terminals, none_due, by_node}
use Rattle.gf_tree.proofs.Common.{append_assoc, filter_map, Described, FileNode, Position, index_is}
use Rattle.gf_tree.proofs.Common.{same_set, Content, flatten, nothing, Format, IsNode, Learns, Bare}
use Rattle.gf_tree.proofs.Common.{Listed, Option, nat_eq, Token, arith, codes, subst, Bool, Each, ℕ}
use Rattle.gf_tree.proofs.Common.{List, None, Text, refl, zero, ◌++◌, Use, map, suc, sym, ◌∙◌, ◌∷◌}
use Rattle.gf_tree.proofs.Common.{◌≡◌, [], ap, at}
use Rattle.gf_token.proofs.Offered.{run_after, walks}
use Rattle.gf_tree.specs.Place.{IsBeforeNode, Place}
use Rattle.gf_tree.specs.Rows.{StandsAt}
use Rattle.gf_tree.specs.Sentence.{Says}
use Rattle.gf_tree.proofs.lemmas.games.SentencesOnce.{says_once}
use Rattle.gf_tree.proofs.lemmas.games.TreesOnce.{uses_of_nodes}
use Rattle.gf_tree.proofs.lemmas.places.Rows.{follows}
use Rattle.gf_tree.proofs.lemmas.places.Steps.{position_of}
use Rattle.gf_tree.proofs.lemmas.runs.Games.{file_found}
use Rattle.gf_tree.specs.inner.Machine.{at_end, next}

-- ---- terminal nodes without an outcome

abbrev blanks : ℕ → List FileNode
blanks zero = []
blanks (suc n) = record { name = []; set = None; outcome = None } ∷ blanks n

are_blank : (players n : ℕ) → Each (IsNode players) (terminals n) (blanks n)
are_blank players zero = refl
are_blank players (suc n) = (
  Bare (codes "t") ∷ Text [] ∷ Bare (codes "0") ∷ [],
  terminals n,
  refl,
  record {
    letter = codes "t";
    step = [];
    result = Bare (codes "0") ∷ [];
    parts = refl;
    is_step = (refl, refl);
    is_result = (codes "0", refl, index_is (codes "0") 0 zero_is_index);
  },
  are_blank players n,
)

use_nothing : {U : Type 0} (use_in : FileNode → Option U) (said : List FileNode) (n : ℕ)
    → use_in (record { name = []; set = None; outcome = None }) ≡ None
    → filter_map use_in (said ++ blanks n) ≡ filter_map use_in said
use_nothing use_in [] zero e = refl
use_nothing use_in [] (suc n) e = grind (arith, use_nothing use_in [] n e)
use_nothing {U} use_in (m ∷ said) n e = grind (arith, use_nothing use_in said n e)

each_more : {A : Type 0} (P : List Token → A → Type 0) (xs ys : List A) (ts us : List Token)
    → Each P ts xs → Each P us ys → Each P (ts ++ us) (xs ++ ys)
each_more P [] ys ts us h k = subst (λ (x : List Token). Each P (x ++ us) ys) (sym h) k
each_more P (x ∷ xs) ys ts us h k = (
  h.0,
  h.1 ++ us,
  cc (h.2, append_assoc h.0 h.1 us),
  h.3,
  each_more P xs ys h.1 us h.4 k,
)

says_more : {title note : List ℕ} {players : List (List ℕ)} (said : List FileNode) (n : ℕ)
    (tokens : List Token) → Says title note players said tokens
    → Says title note players (said ++ blanks n) (tokens ++ terminals n)
says_more {title} {note} {players} said n tokens h = record {
  letter = h.letter;
  comment = h.comment;
  nodes = h.nodes ++ terminals n;
  parts = grind (arith, append_assoc, terminals);
  is_letter = h.is_letter;
  is_comment = h.is_comment;
  are_nodes = grind (arith, each_more, terminals, are_blank);
}

-- ---- what the nodes before them describe

completed : (q : Position) (c : Content) → IsBeforeNode (position_of q) → Completed q c
completed q c h = grind (arith, after_players, nodes_end, none_due, by_node)

learned : {K D : Type 0} (same : K → K → Bool) (use_in : FileNode → Option (Use K D))
    (es : List (Listed FileNode)) (said : List FileNode) (n : ℕ) (end known : List (Described K D))
    → use_in (record { name = []; set = None; outcome = None }) ≡ None
    → map (λ e. e.node) es ≡ said ++ blanks n → end ≡ known
    → Learns same [] (filter_map (λ e. use_in e.node) es) end
    → Learns same [] (filter_map use_in said) known
learned same use_in es said n end known none nodes is learns =
    grind (arith, known, uses_of_nodes, use_nothing)

pub known : {title note : List ℕ} {players : List (List ℕ)} (said : List FileNode)
    (before : List Token) (x : Place) → Says title note players said before → StandsAt before x
    → IsBeforeNode x.position
    → Learns same_set [] (filter_map (λ n. n.set) said) x.known.sets
    × Learns nat_eq [] (filter_map (λ n. n.outcome) said) x.known.outcomes
known said before x says h is =
    let s = walks follows before x h in
    let k = completed s.0.position s.0.content
    (subst (λ (y : Place). IsBeforeNode y.position) (sym s.2) is) in
    let tokens = before ++ terminals k.count in
    let reads =
    run_after next at_end before (terminals k.count) (at Format nothing) s.0 s.1 ∙ k.reads in
    let f = file_found tokens k.end reads in
    let same = says_once tokens f.sentence (says_more said k.count before says) in
    let es = flatten f.file.tree in (
      learned same_set (λ n. n.set) es said k.count k.end.sets x.known.sets refl same.nodes
          (k.sets ∙ ap (λ (y : Place). y.known.sets) s.2) f.learns.sets,
      learned nat_eq (λ n. n.outcome) es said k.count k.end.outcomes x.known.outcomes refl
          same.nodes (k.outcomes ∙ ap (λ (y : Place). y.known.outcomes) s.2) f.learns.outcomes,
    )
