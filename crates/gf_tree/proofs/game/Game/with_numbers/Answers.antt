use Rattle.gf_tree.proofs.Common.{◌≡◌, ℕ, ◌<◌, ◌^◌, ◌∙◌, ap, map, subst, sym, AllByRecursion}
use Rattle.gf_tree.proofs.Common.{label_of, SetKey, InformationSet, Outcome, Described, Game}
use Rattle.gf_tree.proofs.Common.{game_with, kept_of, listed_numbers, IsRenumbering, renumbered}
use Rattle.gf_tree.specs.inner.GameParts.{parts_of}
use Rattle.gf_tree.proofs.lemmas.games.Made.{its_game, renumbered_held}
use Rattle.gf_tree.proofs.lemmas.games.ListedNumbers.{listed_is_renumbering}
use Rattle.gf_tree.proofs.lemmas.stores.RenumberedKept.{game_mapped, outcome_image, set_image}

pub invariant_of-result : Rattle.gf_tree.proofs.game.Game.with_numbers.Goals.invariant_of-result
invariant_of-result c =
    let r =
    listed_numbers c.args.self.now (map (λ own. own.items) c.args.sets.now) c.args.outcomes.now in
    let players : c.in_ok-players.players.items ≡ c.self.inside.parts.players.items =
    c.in_ok-players.ensures.items_if_clones_equal (λ x y h. h) ∙ c.deref.ensures.value in
    let nodes : c.in_ok-nodes.nodes.items ≡ c.self.inside.nodes.items =
    c.in_ok-nodes.ensures.items_if_clones_equal (λ x y h. h) ∙ c.deref-2.ensures.value in
    let sets : c.in_ok-sets.sets.known ≡ map (set_image r) c.self.inside.parts.sets.known =
    c.in_ok-sets.ensures.known ∙ ap (λ (g : Game). map (set_image r) g.sets) (sym c.self.view_is) in
    let outcomes =
    c.in_ok-outcomes.ensures.known
    ∙ ap (λ (g : Game). map (outcome_image r) g.outcomes) (sym c.self.view_is) in
    let new =
    listed_is_renumbering c.args.self.now (its_game _ _ c.self.invariant.is_game c.self.view_is)
    (map (λ own. own.items) c.args.sets.now) c.args.outcomes.now c.requires in
    rw (players, nodes, sets, outcomes)
    (renumbered_held _ _ r c.self.invariant
    (subst (λ (g : Game). IsRenumbering g r) (sym c.self.view_is) new)
    (subst (AllByRecursion (λ (s : Described SetKey InformationSet). s.key.number < 2 ^ 32)) sets
    c.in_ok-sets.ensures.small)
    (subst (AllByRecursion (λ (o : Described ℕ Outcome). o.key < 2 ^ 32)) outcomes
    c.in_ok-outcomes.ensures.small))

pub returns : Rattle.gf_tree.proofs.game.Game.with_numbers.Goals.returns
returns c =
    let r =
    listed_numbers c.args.self.now (map (λ own. own.items) c.args.sets.now) c.args.outcomes.now in
    let players : c.in_ok-players.players.items ≡ c.self.inside.parts.players.items =
    c.in_ok-players.ensures.items_if_clones_equal (λ x y h. h) ∙ c.deref.ensures.value in
    let nodes : c.in_ok-nodes.nodes.items ≡ c.self.inside.nodes.items =
    c.in_ok-nodes.ensures.items_if_clones_equal (λ x y h. h) ∙ c.deref-2.ensures.value in
    let sets : c.in_ok-sets.sets.known ≡ map (set_image r) c.self.inside.parts.sets.known =
    c.in_ok-sets.ensures.known ∙ ap (λ (g : Game). map (set_image r) g.sets) (sym c.self.view_is) in
    let outcomes =
    c.in_ok-outcomes.ensures.known
    ∙ ap (λ (g : Game). map (outcome_image r) g.outcomes) (sym c.self.view_is) in
    let p = parts_of c.self.inside.parts in
    (λ i. game_with (record p {
      players = map label_of (players i);
      sets = sets i;
      outcomes = outcomes i;
    }) (map kept_of (nodes i)))
    ∙ game_mapped r p (map kept_of c.self.inside.nodes.items) ∙ ap (renumbered r) c.self.view_is
