-- The text of a game spells that game, so files mean exactly the games that a file can hold.
use Rattle.gf_canon.proofs.Common
use Common.{IsSpellableOutcome, same_set_equality, AllByRecursion, IsSpellableSet, result_fields, ℕ}
use Common.{used_outcomes, Decides-eqb, IsSpellable, step_fields, IsLabel, option_map, outcome_at}
use Common.{SpellsGame, node_after, file_nodes, use_after, used_sets, set_at, node_text, game_text}
use Common.{set_fields, same_set, FileNode, flatten, list_any, in_keys, Option, nat_eq, Listed}
use Common.{SetKey, IsGame, subst, codes, Token, IsSet, length, [], found, List, ◌++◌, Some, None}
use Common.{refl, Text, Bare, Node, Game, each, held, ap, ◌≡◌, ◌∷◌, ◌↔◌, map, sym, inl, inr, Has}
use Common.{IsOutcome, outcome_fields, decimal, arith}
use Rattle.std.specs.Fmt.{digits}
use Rattle.gf_token.specs.Grammar.{Each}
use Rattle.gf_token.proofs.Offered.{AreSaid, Says, both, empty, fields, label, labels, line, lines}
use Rattle.gf_token.proofs.Offered.{list, word, decimal_is_index}
use Rattle.gf_tree.specs.Sentence.{IsInformationSet, IsNode, IsOutcomeDescription, IsResult, IsStep}
use Rattle.gf_tree.proofs.Offered.{spelled_is_spellable}
use Rattle.gf_canon.proofs.lemmas.texts.FileOf.{entries_after, file_of_game, file_nodes_are}
use Rattle.gf_canon.proofs.lemmas.texts.SaidFields.{Say, say_described, say_each_field}
use Rattle.gf_canon.proofs.lemmas.texts.SaidFields.{say_mover, say_outcome, say_set}

-- ---- each node

null : AreSaid (result_fields None) (Bare (decimal 0) ∷ [])
unfolding digits
null = word (codes "0") (refl, tt)

module _ (g : Game) (game : IsGame g) (can : IsSpellable g) where
  step : (name : List ℕ) (before : List SetKey) (o : Option SetKey) → IsLabel name
      → ((key : SetKey) → o ≡ Some key → Has (used_sets g.tree) key)
      → (letter : List ℕ) × (ts : List Token) × AreSaid (step_fields name
      (option_map (use_after same_set (set_at g) before) o)) (Bare letter ∷ Text name ∷ ts)
      × IsStep letter ts (option_map (use_after same_set (set_at g) before) o)
  step name before None named among =
      (codes "t", [], both (word (codes "t") (refl, tt)) (label name named), (refl, refl))
  step name before (Some key) named among =
      let f = found same_set same_set_equality g.sets key (in_keys same_set same_set_equality
      (used_sets g.tree) g.sets key game.one_entry_each_set (among key refl)) in
      let d = f.description in
      let spelled = each IsSpellableSet g.sets _ can.sets f.among in
      let is = each (λ s. IsSet (length g.players) s.key s.description) g.sets _ game.each_set
      f.among in
      let mover = say_mover name key.player named spelled.player in
      let set = say_described set_fields (IsInformationSet key.player) key.number d
      (list_any (same_set key) before) spelled.number
      (say_set key.player d is.actions spelled.name spelled.actions) in
      rw f.is_at (
        mover.0,
        mover.1 ++ Bare (decimal key.number) ∷ set.0,
        both mover.2 set.1,
        (
          mover.1,
          decimal key.number,
          set.0,
          refl,
          mover.3,
          (decimal_is_index key.number spelled.number, is.number),
          set.2,
        ),
      )

  result : (before : List ℕ) (o : Option ℕ)
      → ((number : ℕ) → o ≡ Some number → Has (used_outcomes g.tree) number)
      → Say (result_fields (option_map (use_after nat_eq (outcome_at g) before) o)) (λ ts.
      IsResult (length g.players) ts (option_map (use_after nat_eq (outcome_at g) before) o))
  result before None among =
      (Bare (decimal 0) ∷ [], null, (decimal 0, refl, decimal_is_index 0 (omega arith)))
  result before (Some number) among =
      let f = found nat_eq Decides-eqb g.outcomes number (in_keys nat_eq Decides-eqb
      (used_outcomes g.tree) g.outcomes number game.one_entry_each_outcome (among number refl)) in
      let d = f.description in
      let spelled = each IsSpellableOutcome g.outcomes _ can.outcomes f.among in
      let is = each (λ o. IsOutcome (length g.players) o.key o.description) g.outcomes _
      game.each_outcome f.among in
      let outcome = say_described outcome_fields (IsOutcomeDescription (length g.players)) number d
      (list_any (nat_eq number) before) spelled.number
      (say_outcome (length g.players) d is.one_payoff_each spelled.name spelled.payoffs) in
      rw f.is_at (
        Bare (decimal number) ∷ outcome.0,
        outcome.1,
        (
          decimal number,
          outcome.0,
          refl,
          (decimal_is_index number spelled.number, is.number_from_one),
          outcome.2,
        ),
      )

  abbrev IsSaid : FileNode → Type 0
  IsSaid n = (ts : List Token) × Says (node_text n) ts × IsNode (length g.players) ts n

  node : (before : List (Listed Node)) (e : Listed Node) → Has (flatten g.tree) e
      → IsSaid (node_after g before e.node)
  node before e i =
      let es = flatten g.tree in
      let name = each (λ (d : Listed Node). IsLabel d.node.name) es e can.nodes i in
      let s = step e.node.name _ e.node.set name (λ key q. held (λ n. n.set) es e key i q) in
      let r = result _ e.node.outcome (λ number q. held (λ n. n.outcome) es e number i q) in (
        Bare s.0 ∷ Text e.node.name ∷ (s.1 ++ r.0),
        line (both s.2 r.1),
        record {
          letter = s.0;
          step = s.1;
          result = r.0;
          parts = refl;
          is_step = s.3;
          is_result = r.2;
        },
      )

  nodes : (before es : List (Listed Node)) → ((e : Listed Node) → Has es e → Has (flatten g.tree) e)
      → AllByRecursion IsSaid (map (λ e. e.node) (entries_after g before es))
  nodes before [] among = tt
  nodes before (e ∷ es) among =
      (node before e (among e (inl refl)), nodes (before ++ e ∷ []) es (λ d i. among d (inr i)))

  -- ---- the whole

  said_nodes : Say (map node_text (file_nodes g))
      (λ ts. Each (IsNode (length g.players)) ts (file_nodes g))
  said_nodes = say_each_field (IsNode (length g.players)) node_text (file_nodes g)
      (subst (AllByRecursion IsSaid) (sym (file_nodes_are g)) (nodes [] (flatten g.tree) (λ e i. i)))

pub text_reads_back : (g : Game) → IsGame g → IsSpellable g → SpellsGame (game_text g) g
text_reads_back g game can =
    let nodes = said_nodes g game can in
    let heading = fields (both (word (codes "EFG") (refl, (refl, (refl, tt))))
    (both (word (codes "2") (refl, tt)) (both (word (codes "R") (refl, tt))
    (both (label g.title can.title) (list (labels g.players can.players)))))) in
    let told = lines (both heading (both (label g.comment can.comment) (both empty nodes.1))) 0 in
    let file = file_of_game g game in
    let kept = file.1.game.kept in (
      told.0,
      told.1,
      rw told.2 (
        file.0,
        record {
          letter = codes "R";
          comment = Text g.comment ∷ [];
          nodes = nodes.0;
          parts = cc;
          is_letter = inl refl;
          is_comment = inr (ap (λ c. Text c ∷ []) (sym kept.comment));
          are_nodes = rw (file.2, kept.players) nodes.2;
        },
        file.1.consistent,
        file.1.game,
      ),
    )

pub games_of_files : (g : Game)
    → ((bytes : List ℕ) × SpellsGame bytes g) ↔ (IsGame g × IsSpellable g)
games_of_files g =
    (λ h. spelled_is_spellable h.0 g h.1, λ h. (game_text g, text_reads_back g h.0 h.1))
