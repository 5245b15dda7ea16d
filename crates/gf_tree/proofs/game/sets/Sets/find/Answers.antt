use Rattle.gf_tree.proofs.Common.{sym, ◌∙◌, arith}
use Rattle.gf_tree.proofs.lemmas.stores.SetsStored.{above, found}
use Rattle.gf_tree.specs.declared.game.sets.SetKey.{SetKey as StoredKey}
use Rattle.gf_tree.proofs.game.sets.Sets.find.Goals as goal

pub returns-then-number-self : goal.returns-then-number-self
returns-then-number-self c =
    let s = c.self.inside in
    let key : StoredKey = record { player = c.args.player; number = c.args.number } in
    sym (above s.entries.entries s.greatest key c.self.invariant.1 (omega (arith, c.if-number-self.true)))
    ∙ found s.entries.entries s.actions.items s.from c.args.self.now c.self.view_is key

pub returns-in-Some : goal.returns-in-Some
returns-in-Some c =
    cc (found c.self.inside.entries.entries c.self.inside.actions.items c.self.inside.from
    c.args.self.now c.self.view_is (record { player = c.args.player; number = c.args.number }))

pub returns-in-None : goal.returns-in-None
returns-in-None c =
    cc (found c.self.inside.entries.entries c.self.inside.actions.items c.self.inside.from
    c.args.self.now c.self.view_is (record { player = c.args.player; number = c.args.number }))
