use Rattle.gf_tree.proofs.Common.{ℕ, ap, arith, map, Vec, Global, length-map, Game, IsGame}
use Rattle.gf_tree.proofs.lemmas.games.Made.{its_game}
use Rattle.gf_tree.proofs.lemmas.stores.RenumberedStores.{IsFound, found_in, own_items}
use Rattle.gf_tree.proofs.game.Game.listed_number.Goals as goal

found : (c : goal.After-first_use_number) → (game : IsGame c.args.self.now)
    → IsFound c.args.self.now game (map (λ own. own.items) c.args.sets.now) c.requires.listed.0
    c.requires.listed.1 c.args.place c.first_use_number.result c.index-sets-player.result.items
found c game =
    found_in c.args.self.now game (map (λ own. own.items) c.args.sets.now) c.requires.listed.0
    c.requires.listed.1
    c.self.inside.parts.sets.known c.args.place c.first_use_number.result c.key-player.result.0
    c.key-player.result.1 c.index-sets-player.result.items
    (ap (λ (g : Game). g.sets) c.self.view_is) c.requires.within c.key-player.ensures
    c.first_use_number.ensures
    (λ h. own_items c.args.sets.now c.key-player.result.0 c.index-sets-player.result
    c.index-sets-player.is
    (omega (arith, h, length-map c.args.sets.now (λ (own : Vec ℕ Global). own.items))))

pub overflow_sub-first_use_number : goal.overflow_sub-first_use_number
overflow_sub-first_use_number c =
    (found c (its_game _ _ c.self.invariant.is_game c.self.view_is)).positive

pub index-requires : goal.index-requires
index-requires c =
    grind (arith, found c (its_game _ _ c.self.invariant.is_game c.self.view_is))

pub returns : goal.returns
returns c =
    let game = its_game _ _ c.self.invariant.is_game c.self.view_is in
    let r = found_in c.args.self.now game (map (λ own. own.items) c.args.sets.now)
    c.requires.listed.0 c.requires.listed.1
    c.self.inside.parts.sets.known c.args.place c.first_use_number.result c.key-player.result.0
    c.key-player.result.1 c.index-sets-player.result.items
    (ap (λ (g : Game). g.sets) c.self.view_is) c.requires.within c.key-player.ensures
    c.first_use_number.ensures
    (λ h. own_items c.args.sets.now c.key-player.result.0 c.index-sets-player.result
    c.index-sets-player.is
    (omega (arith, h, length-map c.args.sets.now (λ (own : Vec ℕ Global). own.items)))) in
    r.number c.index.result.now c.index.ensures
