use Rattle.gf_tree.proofs.Common.{◌∙◌, ap, sym, slice_get, same_set, set_of, Game, set_at}
use Rattle.gf_tree.proofs.lemmas.stores.FoundKeys.{described_at, not_described, set_in_parts}
use Rattle.gf_tree.proofs.lemmas.games.TreesOnce.{same_set_equality}

pub returns-in-Some : Rattle.gf_tree.proofs.game.Game.infoset.Goals.returns-in-Some
returns-in-Some c =
    let sets = c.self.inside.parts.sets.known in
    let key = set_of c.args.player c.args.number in
    let place = sym c.find.ensures ∙ c.in-Some.is in
    sym (set_in_parts (slice_get sets c.in-Some.place) _ _ c.name.ensures c.actions.ensures)
    ∙ sym (described_at same_set same_set_equality key sets c.in-Some.place place)
    ∙ ap (λ (g : Game). set_at g key) c.self.view_is

pub returns-in-None : Rattle.gf_tree.proofs.game.Game.infoset.Goals.returns-in-None
returns-in-None c =
    cc (not_described same_set same_set_equality (set_of c.args.player c.args.number)
    c.self.inside.parts.sets.known (sym c.find.ensures ∙ c.in-None.is))
