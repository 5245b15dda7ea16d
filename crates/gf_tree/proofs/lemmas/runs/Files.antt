-- Runs over all nodes of a file, in prefix order.
use Rattle.gf_tree.proofs.Common
use Common.{AllByRecursion, InformationSet, description_at, length-append, append_assoc, append-nil}
use Common.{outcome_uses, HasChildren, cons_option, keys_alone, option_map, run_tokens, Described}
use Common.{FileNode, same_set, set_uses, Content, NodeDue, Outcome, game_in, IsNode, Learns, Fills}
use Common.{Listed, Option, SetKey, length, nat_eq, Token, arith, subst, Bare, Each, Game, List, []}
use Common.{Node, Some, refl, zero, ◌++◌, Use, map, suc, sym, ◌+◌, ◌-◌, ◌<◌, ◌∙◌, ◌∷◌, ◌≡◌, ℕ}
use Rattle.gf_tree.proofs.lemmas.games.Consistent.{map_entry}
use Rattle.gf_tree.proofs.lemmas.games.TreesOnce.{same_set_equality}
use Rattle.gf_tree.proofs.lemmas.runs.Tokens.{Reads, ok_read}
use Rattle.gf_tree.proofs.lemmas.runs.Sets.{AreSets}
use Rattle.gf_tree.proofs.lemmas.runs.Nodes.{letter_found, node_again, MapOf, HasChildrenBy}
use Rattle.gf_tree.proofs.lemmas.runs.Nodes.{set_key, past_node, NodeRead}
use Rattle.gf_tree.proofs.lemmas.runs.Results.{AreOutcomes}
use Rattle.gf_tree.proofs.lemmas.games.SentencesOnce.{nodes_no_text}
use Rattle.gf_tree.proofs.lemmas.runs.Learned.{uses_of, learns_on, learns_split, kept, all_known}
use Rattle.gf_tree.proofs.lemmas.runs.Learned.{one_use, at_new}

-- the nodes without descriptions
abbrev pub alone : List (Listed FileNode) → List (Listed Node)
alone es = map (map_entry keys_alone) es

abbrev pub nodes_of : List (Listed FileNode) → List FileNode
nodes_of es = map (λ e. e.node) es

-- ---- what was read

-- the nodes that are due, and no more
pub record NodesRead (ts : List Token) (c r : Content) : Type 0 where
  pub entries : List (Listed FileNode)
  pub are_nodes : Each (IsNode (length c.players)) ts (nodes_of entries)
  pub fills : Fills c.due entries
  pub title : r.title ≡ c.title
  pub comment : r.comment ≡ c.comment
  pub players : r.players ≡ c.players
  pub nodes : r.nodes ≡ c.nodes ++ alone entries
  pub learns_sets : Learns same_set c.sets (set_uses entries) r.sets
  pub learns_outcomes : Learns nat_eq c.outcomes (outcome_uses entries) r.outcomes
  pub children : AllByRecursion (HasChildren (game_in r)) (alone entries)
  pub are_sets : AreSets (length c.players) r.sets
  pub are_outcomes : AreOutcomes (length c.players) r.outcomes

-- the uses of the first node, and the others
pub more_uses : {K D : Type 0} (o : Option (Use K D)) (us : List (Use K D))
    → uses_of o ++ us ≡ cons_option o us
more_uses o us = grind arith

nodes_more : (ts : List Token) (due : ℕ) (c r : Content) → c.due ≡ suc due → (h : NodeRead ts c r)
    → NodesRead h.rest (past_node c h.node h.children h.sets h.outcomes) r → NodesRead ts c r
nodes_more ts due c r is h k =
    let entry : Listed FileNode = record { node = h.node; children = h.children } in
    let pending : h.children + (c.due - 1) ≡ h.children + due = omega (arith, is) in
    let filled : Fills (suc due) (entry ∷ k.entries) =
    subst (λ (d : ℕ). Fills d k.entries) pending k.fills in
    record {
      entries = entry ∷ k.entries;
      are_nodes = (h.tokens, h.rest, h.parts, h.is_node, k.are_nodes);
      fills = subst (λ (d : ℕ). Fills d (entry ∷ k.entries)) (sym is) filled;
      title = k.title;
      comment = k.comment;
      players = k.players;
      nodes = k.nodes ∙ append_assoc c.nodes (map_entry keys_alone entry ∷ []) (alone k.entries);
      learns_sets = grind (arith, more_uses, learns_on, uses_of);
      learns_outcomes = rw (← more_uses h.node.outcome (outcome_uses k.entries)) (learns_on nat_eq
          (uses_of h.node.outcome) (outcome_uses k.entries) c.outcomes h.outcomes r.outcomes
          h.learns_outcomes k.learns_outcomes);
      children = grind (arith, set_key, kept);
      are_sets = k.are_sets;
      are_outcomes = k.are_outcomes;
    }

nodes_by : (size : ℕ) (ts : List Token) (c r : Content)
    → length ts < size → AreSets (length c.players) c.sets
    → AreOutcomes (length c.players) c.outcomes → Reads NodeDue c ts r → NodesRead ts c r
nodes_by (suc size) (Bare b ∷ ts) c r within sets outcomes e =
    let h : NodeRead (Bare b ∷ ts) c r × ((left : ℕ) × (c.due ≡ suc left)) = grind (arith, letter_found) in
    let n = h.0 in
    let less : length n.rest < length (Bare b ∷ ts) = grind (arith, length-append) in
    nodes_more (Bare b ∷ ts) h.1.0 c r h.1.1 n
    (nodes_by size n.rest (past_node c n.node n.children n.sets n.outcomes) r
    (omega (arith, within, less)) n.are_sets n.are_outcomes n.goes_on)
nodes_by size ts c r within sets outcomes e = grind (arith, append-nil)

pub nodes_found : (ts : List Token) (c r : Content) → AreSets (length c.players) c.sets
    → AreOutcomes (length c.players) c.outcomes → Reads NodeDue c ts r → NodesRead ts c r
nodes_found ts c r sets outcomes e = nodes_by (suc (length ts)) ts c r (omega arith) sets outcomes e

-- ---- all nodes are read

-- a node has its children by what is known after it
children_then : (known mid end : MapOf) (o : Option (Use SetKey InformationSet)) (children : ℕ)
    → Learns same_set known (uses_of o) mid
    → ((key : SetKey) (d : InformationSet) → description_at same_set mid key ≡ Some d
    → description_at same_set end key ≡ Some d)
    → HasChildrenBy end (option_map (λ u. u.key) o) children
    → HasChildrenBy mid (option_map (λ u. u.key) o) children
children_then known mid end o children learns same h = grind (arith, one_use, at_new, same_set_equality)

-- all that is read after this content
abbrev pub past_nodes : Content → List (Listed FileNode) → MapOf → List (Described ℕ Outcome)
    → Content
past_nodes c es sets outcomes =
    record c { nodes = c.nodes ++ alone es; due = 0; sets = sets; outcomes = outcomes }

pub nodes_again : (es : List (Listed FileNode)) (ts : List Token) (c : Content)
    (g : Game) (sets : MapOf) (outcomes : List (Described ℕ Outcome)) → g.sets ≡ sets
    → Each (IsNode (length c.players)) ts (nodes_of es)
    → Fills c.due es → Learns same_set c.sets (set_uses es) sets
    → Learns nat_eq c.outcomes (outcome_uses es) outcomes
    → AllByRecursion (HasChildren g) (alone es) → AreSets (length c.players) sets
    → run_tokens NodeDue c ts ≡ ok_read (past_nodes c es sets outcomes)
nodes_again [] ts c g sets outcomes of each fills learns_sets learns_outcomes children are =
    grind (arith, append-nil, ok_read)
nodes_again (e ∷ es) ts c g sets outcomes of each fills learns_sets learns_outcomes children are =
    let left = some_due c.due refl fills in
    let us = subst (λ us. Learns same_set c.sets us sets) (sym (more_uses e.node.set (set_uses es)))
    learns_sets in
    let vs = subst (λ us. Learns nat_eq c.outcomes us outcomes)
    (sym (more_uses e.node.outcome (outcome_uses es))) learns_outcomes in
    let s = learns_split same_set (uses_of e.node.set) (set_uses es) c.sets sets us in
    let o = learns_split nat_eq (uses_of e.node.outcome) (outcome_uses es) c.outcomes outcomes vs in
    let mid_are = all_known same_set _ (set_uses es) s.0 sets s.2 are in
    let counted : HasChildrenBy sets (set_key e.node) e.children =
    subst (λ (x : MapOf). HasChildrenBy x (set_key e.node) e.children) of children.0 in
    let has = children_then c.sets s.0 sets e.node.set e.children s.1
    (kept same_set (set_uses es) s.0 sets s.2) counted in
    let behind = past_node c e.node e.children s.0 o.0 in
    cc (
      node_again e.node e.children left.0 each.0 each.1 c s.0 o.0 left.1 each.3 (nodes_no_text
          (length c.players) (nodes_of es) each.1 each.4) s.1 o.1 has mid_are,
      nodes_again es each.1 behind g sets outcomes of each.4 left.2 s.2 o.2 children.1 are,
      append_assoc c.nodes (map_entry keys_alone e ∷ []) (alone es),
    )
  where
    some_due : (due : ℕ) → c.due ≡ due → Fills due (e ∷ es)
        → (left : ℕ) × (c.due ≡ suc left) × Fills (e.children + (c.due - 1)) es
    some_due zero is h = absurd h
    some_due (suc left) is h = (
      left,
      is,
      let pending : e.children + left ≡ e.children + (c.due - 1) = omega (arith, is) in
          subst (λ (d : ℕ). Fills d es) pending h,
    )
