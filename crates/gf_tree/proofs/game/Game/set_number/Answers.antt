use Rattle.gf_tree.proofs.Common.{ℕ, List, ◌∙◌, ap, map, sym, at_position, SetKey, InformationSet}
use Rattle.gf_tree.proofs.Common.{Described, player_keys, Game, known_of}
use Rattle.gf_tree.proofs.lemmas.games.Members.{map_twice}

pub returns : Rattle.gf_tree.proofs.game.Game.set_number.Goals.returns
returns c =
    let numbers =
    map_twice (λ (k : SetKey). k.number) (λ (s : Described SetKey InformationSet). s.key)
    (known_of c.args.player c.self.inside.parts.sets.known) in
    c.number.ensures ∙ ap (λ (ns : List ℕ). at_position ns c.args.i) (sym numbers) ∙ ap
    (λ (g : Game). at_position (map (λ key. key.number) (player_keys g c.args.player)) c.args.i)
    c.self.view_is
