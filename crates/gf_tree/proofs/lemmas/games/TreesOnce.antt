-- Tokens mean at most one consistent file tree, and at most one game.
use Rattle.gf_tree.proofs.Common
use Common.{HasChildrenAsDescribed, AllByRecursion, InformationSet, used_outcomes, AreConsistent, ℕ}
use Common.{outcome_uses, IsConsistent, cons_option, Decides-eqb, same_tokens, filter_map, Sentence}
use Common.{first_uses, SpellsGame, used_sets, MeansGame, same_set, FileNode, FileTree, set_uses}
use Common.{IsGameOf, flatten, nat_eq, Option, Listed, SetKey, subst, Token, List, drop, Some, None}
use Common.{refl, Game, ◌==◌, ◌≡◌, ◌∷◌, map, sym, ◌∙◌, Use, [], ap}
use Rattle.std.proofs.lemmas.Bool.Decides.{Decides-and}
use Rattle.gf_tree.proofs.lemmas.games.Prefix.{flatten_once}
use Rattle.gf_tree.proofs.lemmas.games.Uses.{described_once, Has, has_first, has_later, IsEquality}
use Rattle.gf_tree.proofs.lemmas.games.Uses.{described}
use Rattle.gf_tree.proofs.lemmas.games.SentencesOnce.{says_once}

pub same_set_equality : IsEquality same_set
same_set_equality a b =
    let parts = Decides-and (a.player == b.player) (a.number == b.number)
    (Decides-eqb a.player b.player) (Decides-eqb a.number b.number) in (
      λ e. let p = parts.0 e in λ i. record { player = p.0 i; number = p.1 i },
      λ e. parts.1 (ap (λ k. k.player) e, ap (λ k. k.number) e),
    )

-- ---- the numbers of children

children_by : (uses : List (Use SetKey InformationSet))
    → AreConsistent uses → (o : Option (Use SetKey InformationSet)) (m n : ℕ)
    → ((u : Use SetKey InformationSet) → o ≡ Some u → Has uses u) → HasChildrenAsDescribed uses
    (record { node = record { name = []; set = o; outcome = None }; children = m })
    → HasChildrenAsDescribed uses
    (record { node = record { name = []; set = o; outcome = None }; children = n }) → m ≡ n
children_by uses consistent None m n among h k = h ∙ sym k
children_by uses consistent (Some u) m n among h k =
    let d = described same_set same_set_equality uses consistent u (among u refl) in
    sym (h d.0 d.1) ∙ k d.0 d.1

entries_once : (uses : List (Use SetKey InformationSet))
    → AreConsistent uses → (es fs : List (Listed FileNode))
    → ((u : Use SetKey InformationSet) → Has (set_uses es) u → Has uses u)
    → map (λ e. e.node) es ≡ map (λ e. e.node) fs → AllByRecursion (HasChildrenAsDescribed uses) es
    → AllByRecursion (HasChildrenAsDescribed uses) fs → es ≡ fs
entries_once uses consistent [] [] among e h k = refl
entries_once uses consistent (x ∷ xs) (y ∷ ys) among e h k =
    let node : x.node ≡ y.node = cc in
    let here : (u : Use SetKey InformationSet) → x.node.set ≡ Some u → Has uses u =
    λ u q. among u (has_first x.node.set (set_uses xs) u q) in
    let at_y = subst
    (λ (n : FileNode). HasChildrenAsDescribed uses (record { node = n; children = y.children }))
    (sym node) k.0 in
    let children = children_by uses consistent x.node.set x.children y.children here h.0 at_y in
    let rest = entries_once uses consistent xs ys
    (λ u m. among u (has_later x.node.set (set_uses xs) u m)) (ap (drop 1) e) h.1 k.1 in
    λ i. record { node = node i; children = children i } ∷ rest i
entries_once uses consistent es fs among e h k = absurd cc

-- the uses are those of the nodes
pub uses_of_nodes : {U : Type 0} (use_in : FileNode → Option U) (es : List (Listed FileNode))
    → filter_map (λ e. use_in e.node) es ≡ filter_map use_in (map (λ e. e.node) es)
uses_of_nodes use_in [] = refl
uses_of_nodes {U} use_in (e ∷ es) = ap (cons_option (use_in e.node)) (uses_of_nodes use_in es)

-- ---- one file tree, and one game

pub one_file_tree : (tokens : List Token) (f g : FileTree)
    → Sentence tokens f → IsConsistent f → Sentence tokens g → IsConsistent g → f ≡ g
one_file_tree tokens f g s p t q =
    let h = says_once tokens s t in
    let es = flatten f.tree in
    let fs = flatten g.tree in
    let uses : set_uses fs ≡ set_uses es =
    cc (uses_of_nodes (λ n. n.set) fs, h.nodes, uses_of_nodes (λ n. n.set) es) in
    let children = subst (λ us. AllByRecursion (HasChildrenAsDescribed us) fs) uses q.children in
    let tree = flatten_once f.tree g.tree
    (entries_once (set_uses es) p.sets es fs (λ u m. m) h.nodes p.children children) in
    λ i. record { title = h.title i; comment = h.comment i; players = h.players i; tree = tree i }

pub one_game : (f : FileTree) (g h : Game) → IsConsistent f → IsGameOf f g → IsGameOf f h → g ≡ h
one_game f g h consistent p q =
    let tree = sym p.kept.tree ∙ q.kept.tree in
    let set_keys = p.set_keys ∙ ap (λ t. first_uses same_set (used_sets t)) tree ∙ sym q.set_keys in
    let outcome_keys =
    p.outcome_keys ∙ ap (λ t. first_uses nat_eq (used_outcomes t)) tree ∙ sym q.outcome_keys in
    let sets = described_once (set_uses (flatten f.tree)) consistent.sets g.sets h.sets set_keys
    p.sets q.sets in
    let outcomes = described_once (outcome_uses (flatten f.tree)) consistent.outcomes g.outcomes
    h.outcomes outcome_keys p.outcomes q.outcomes in
    let title = sym p.kept.title ∙ q.kept.title in
    let comment = sym p.kept.comment ∙ q.kept.comment in
    let players = sym p.kept.players ∙ q.kept.players in
    λ i. record {
      title = title i;
      comment = comment i;
      players = players i;
      tree = tree i;
      sets = sets i;
      outcomes = outcomes i;
    }

pub means_one_game : (tokens : List Token) (g h : Game) → MeansGame tokens g → MeansGame tokens h
    → g ≡ h
means_one_game tokens g h p q =
    let same = one_file_tree tokens p.0 q.0 p.1 p.2 q.1 q.2 in
    one_game q.0 g h q.2 (subst (λ f. IsGameOf f g) same p.3) q.3

pub spells_one_game : (bytes : List ℕ) (g h : Game) → SpellsGame bytes g → SpellsGame bytes h
    → g ≡ h
spells_one_game bytes g h p q =
    let same = same_tokens bytes p.0 q.0 p.1 q.1 in
    means_one_game (map (λ l. l.token) q.0) g h
    (subst (λ ls. MeansGame (map (λ l. l.token) ls) g) same p.2) q.2
