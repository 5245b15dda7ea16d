-- What a file means is a game that a file can hold.
use Rattle.gf_tree.proofs.Common
use Common.{IsOutcomeDescription, IsSpellableOutcome, IsSpellableAction, IsInformationSet, FileNode}
use Common.{AllByRecursion, InformationSet, IsSpellableSet, IsDescription, outcome_uses, SpellsGame}
use Common.{IsSpellable, MatchOption, cons_option, keys_alone, Describes, IsSpelled, FileTree, Each}
use Common.{IsAction, IsGameOf, IsResult, Sentence, set_uses, Closing, IsLabel, Outcome, flatten, ℕ}
use Common.{IsGame, IsNode, IsStep, Listed, Option, SetKey, length, Token, arith, subst, Game, List}
use Common.{None, Some, Text, ◌++◌, Use, map, sym, ◌<◌, ◌^◌, ◌∙◌, ◌∷◌, ◌≡◌, [], ap}
use Rattle.gf_fraction.proofs.Offered.{all_parts, all_mapped}
use Rattle.gf_token.proofs.Offered.{AllSpelled, all_spelled, braced_spelled, comment_spelled}
use Rattle.gf_tree.proofs.lemmas.games.Uses.{each, all_of_each, has}
use Rattle.gf_tree.proofs.lemmas.games.Consistent.{map_entry, flatten_map, is_game}

-- what holds for each group of spelled tokens
each_spelled : {A : Type 0} (P : List Token → A → Type 0) (Q : A → Type 0)
    → ((tokens : List Token) (x : A) → P tokens x → AllSpelled tokens → Q x) → (xs : List A)
    (tokens : List Token) → Each P tokens xs → AllSpelled tokens → AllByRecursion Q xs
each_spelled P Q f [] tokens h all = tt
each_spelled P Q f (x ∷ xs) tokens h all =
    let k = all_parts IsSpelled h.0 h.1 (subst AllSpelled h.2 all) in
    (f h.0 x h.3 k.0, each_spelled P Q f xs h.1 h.4 k.1)

-- ---- descriptions

-- a set's description, or an outcome's, if there is one
abbrev SetSpelled : Use SetKey InformationSet → Type 0
SetSpelled u = MatchOption u.description (Unit {0})
    (λ d. IsSpellableSet (record { key = u.key; description = d }))

abbrev OutcomeSpelled : Use ℕ Outcome → Type 0
OutcomeSpelled u = MatchOption u.description (Unit {0})
    (λ d. IsSpellableOutcome (record { key = u.key; description = d }))

set_spelled : (key : SetKey) (o : Option InformationSet) (tokens : List Token) → key.player < 2 ^ 32
    → key.number < 2 ^ 32 → IsDescription (IsInformationSet key.player) tokens o → AllSpelled tokens
    → SetSpelled (record { key = key; description = o })
set_spelled key None tokens p n h all = tt
set_spelled key (Some d) tokens p n h all =
    grind (
      arith,
      each_spelled (IsAction key.player) IsSpellableAction (grind arith)
          d.actions h.0 h.2 (all_parts IsSpelled h.0 (Closing ∷ []) (subst AllSpelled h.1 all).1.1).0,
    )

step_spelled : (letter : List ℕ) (tokens : List Token) (o : Option (Use SetKey InformationSet))
    → IsStep letter tokens o → AllSpelled tokens → MatchOption o (Unit {0}) SetSpelled
step_spelled letter tokens None h all = tt
step_spelled letter tokens (Some u) h all = grind (arith, all_parts, set_spelled)

outcome_spelled : (players key : ℕ) (o : Option Outcome) (tokens : List Token)
    → key < 2 ^ 32 → IsDescription (IsOutcomeDescription players) tokens o → AllSpelled tokens
    → OutcomeSpelled (record { key = key; description = o })
outcome_spelled players key None tokens n h all = tt
outcome_spelled players key (Some d) tokens n h all =
    let k = subst AllSpelled h.1 all in
    let payoffs = all_parts IsSpelled h.0 (Closing ∷ []) k.1.1 in
    record {
      number = n;
      name = k.0;
      payoffs = grind (arith, each_spelled);
    }

result_spelled : (players : ℕ) (tokens : List Token) (o : Option (Use ℕ Outcome))
    → IsResult players tokens o → AllSpelled tokens → MatchOption o (Unit {0}) OutcomeSpelled
result_spelled players tokens None h all = tt
result_spelled players tokens (Some u) h all =
    outcome_spelled players u.key u.description h.1 h.3.0.2 h.4 (subst AllSpelled h.2 all).1

-- ---- nodes

record NodeSpelled (n : FileNode) : Type 0 where
  name : IsLabel n.name
  set : MatchOption n.set (Unit {0}) SetSpelled
  outcome : MatchOption n.outcome (Unit {0}) OutcomeSpelled

node_spelled : (players : ℕ) (tokens : List Token) (n : FileNode)
    → IsNode players tokens n → AllSpelled tokens → NodeSpelled n
node_spelled players tokens n h all =
    let k = subst AllSpelled h.parts all in
    let parts = all_parts IsSpelled h.step h.result k.1.1 in
    record {
      name = k.1.0;
      set = step_spelled h.letter h.step n.set h.is_step parts.0;
      outcome = result_spelled players h.result n.outcome h.is_result parts.1;
    }

all_of_options : {X : Type 0} (P : X → Type 0) (o : Option X) (xs : List X)
    → MatchOption o (Unit {0}) P → AllByRecursion P xs → AllByRecursion P (cons_option o xs)
all_of_options P o xs h k = grind arith

sets_spelled : (es : List (Listed FileNode)) → AllByRecursion NodeSpelled (map (λ e. e.node) es)
    → AllByRecursion SetSpelled (set_uses es)
sets_spelled [] h = tt
sets_spelled (e ∷ es) h = grind (arith, set_uses, sets_spelled es h.1)

outcomes_spelled : (es : List (Listed FileNode)) → AllByRecursion NodeSpelled (map (λ e. e.node) es)
    → AllByRecursion OutcomeSpelled (outcome_uses es)
outcomes_spelled [] h = tt
outcomes_spelled (e ∷ es) h = all_of_options OutcomeSpelled e.node.outcome (outcome_uses es)
    h.0.outcome (outcomes_spelled es h.1)

names_of_nodes : (es : List (Listed FileNode)) → AllByRecursion NodeSpelled (map (λ e. e.node) es)
    → AllByRecursion (λ e. IsLabel e.node.name) (map (map_entry keys_alone) es)
names_of_nodes [] h = tt
names_of_nodes (e ∷ es) h = (h.0.name, names_of_nodes es h.1)

-- ---- the game

is_spellable : (tokens : List Token) (f : FileTree) (g : Game)
    → AllSpelled tokens → Sentence tokens f → IsGameOf f g → IsSpellable g
is_spellable tokens f g all h of =
    let es = flatten f.tree in
    let whole = subst AllSpelled h.parts all in
    let heading = braced_spelled (map Text f.players) (h.comment ++ h.nodes) whole.1.1.1.1 in
    let more = all_parts IsSpelled h.comment h.nodes heading.1 in
    let nodes = each_spelled (IsNode (length f.players)) NodeSpelled
    (node_spelled (length f.players)) (map (λ e. e.node) es) h.nodes h.are_nodes more.1 in
    let entries : map (map_entry keys_alone) es ≡ flatten g.tree =
    sym (flatten_map keys_alone f.tree) ∙ ap flatten of.kept.tree in
    let sets = sets_spelled es nodes in
    let outcomes = outcomes_spelled es nodes in
    record {
      title = subst IsLabel of.kept.title whole.1.1.1.0;
      comment = cc (comment_spelled h.comment f.comment h.is_comment more.0);
      players = subst (AllByRecursion IsLabel) of.kept.players
          (all_mapped IsSpelled Text f.players heading.0);
      nodes = subst (AllByRecursion (λ e. IsLabel e.node.name)) entries (names_of_nodes es nodes);
      sets = all_of_each IsSpellableSet g.sets (λ s m.
          let told : Use SetKey InformationSet =
          record { key = s.key; description = Some s.description } in
          each SetSpelled (set_uses es) told sets (has (set_uses es) told
          (each (λ s. Describes (set_uses es) s.key s.description) g.sets s of.sets m)));
      outcomes = all_of_each IsSpellableOutcome g.outcomes (λ o m.
          let told : Use ℕ Outcome = record { key = o.key; description = Some o.description } in
          each OutcomeSpelled (outcome_uses es) told outcomes (has (outcome_uses es) told (each
          (λ o. Describes (outcome_uses es) o.key o.description) g.outcomes o of.outcomes m)));
    }

pub spelled_is_spellable : (bytes : List ℕ) (g : Game) → SpellsGame bytes g
    → IsGame g × IsSpellable g
spelled_is_spellable bytes g h = let m = h.2 in (
  is_game m.0 g m.2 m.3,
  is_spellable (map (λ l. l.token) h.0) m.0 g (all_spelled h.0 0 bytes h.1) m.1 m.3,
)
