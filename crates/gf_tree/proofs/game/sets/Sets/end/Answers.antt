use Rattle.gf_tree.proofs.Common.{List, arith, length-map, rules, subst, HoldActions, end_of}
use Rattle.gf_tree.proofs.lemmas.stores.SetsStored.{Entry, are_then, below_then, found, view_then}
use Rattle.gf_tree.specs.declared.game.action.Action.{Action as Held}
use Rattle.gf_tree.proofs.game.sets.Sets.end.Goals as goal

pub push-requires-clause-absent : goal.push-requires-clause-absent
push-requires-clause-absent c =
    cc (found c.self.inside.entries.entries c.self.inside.actions.items c.self.inside.from
    c.args.self.now c.self.view_is (record { player = c.args.player; number = c.args.number }))

pub invariant_of-self-2 : goal.invariant_of-self-2
invariant_of-self-2 c =
    let s = c.self.inside in
    let new : Entry = (
      record { player = c.args.player; number = c.args.number },
      record {
        among = c.in_ok-among.among;
        count = c.in_ok-start.count;
        name = c.args.name;
        start = c.in_ok-start.start;
      },
    ) in
    let Holds : List Held → Type 0 =
    λ actions. HoldActions actions s.from new.1.start (end_of new.1) in (
      are_then s.players.items s.entries.entries s.actions.items s.from c.self.invariant.0
          c.args.self.now c.self.view_is new c.max-self-inside-2.result
          (subst Holds c.deref-2.ensures.value c.in_ok-start.ensures) (search rules)
          c.push.new.map.entries c.truncate.new.self.items (search rules) (search rules)
          c.add_own.new.players.items c.add_own.ensures.others c.in_ok-among.ensures.own
          c.in_ok-among.ensures.count (omega (arith, c.in_ok-place.ensures.ok, c.len.ensures.len)),
      below_then s.entries.entries s.greatest new c.push.new.map.entries c.max-self-inside.result
          c.self.invariant.1 (search rules) (search rules),
    )

pub returns-clause-ok : goal.returns-clause-ok
returns-clause-ok c =
    let s = c.self.inside in
    let new : Entry = (
      record { player = c.args.player; number = c.args.number },
      record {
        among = c.in_ok-among.among;
        count = c.in_ok-start.count;
        name = c.args.name;
        start = c.in_ok-start.start;
      },
    ) in
    let Holds : List Held → Type 0 =
    λ actions. HoldActions actions s.from new.1.start (end_of new.1) in
    view_then s.players.items s.entries.entries s.actions.items s.from c.self.invariant.0
    c.args.self.now c.self.view_is new c.max-self-inside-2.result
    (subst Holds c.deref-2.ensures.value c.in_ok-start.ensures) (search rules)
    c.push.new.map.entries c.truncate.new.self.items (search rules) (search rules)

pub invariant_of-self : goal.invariant_of-self
invariant_of-self c = rw c.make_room.ensures.entries c.self.invariant

pub invariant_of-self-in_err-start : goal.invariant_of-self-in_err-start
invariant_of-self-in_err-start c = rw c.make_room.ensures.entries c.self.invariant

pub returns-clause-place : goal.returns-clause-place
returns-clause-place c = grind (arith, length-map)
