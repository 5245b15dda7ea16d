use Rattle.gf_tree.proofs.Common.{rules}
use Rattle.gf_tree.proofs.lemmas.stores.SetsStored.{action_pushed, still_sets}

pub invariant_of-self-2 : Rattle.gf_tree.proofs.game.sets.Sets.push.Goals.invariant_of-self-2
invariant_of-self-2 c =
    let s = c.self.inside in (
      still_sets s.players.items s.entries.entries s.actions.items s.from c.self.invariant.0
          c.args.self.now c.self.view_is c.push.new.self.items
          (record { label = c.args.label; probability = c.args.probability }) (search rules),
      c.self.invariant.1,
    )

pub returns-clause-ok : Rattle.gf_tree.proofs.game.sets.Sets.push.Goals.returns-clause-ok
returns-clause-ok c =
    let s = c.self.inside in
    action_pushed s.players.items s.entries.entries s.actions.items s.from c.self.invariant.0
    c.args.self.now c.self.view_is c.push.new.self.items
    (record { label = c.args.label; probability = c.args.probability }) (search rules)
