use Rattle.gf_canon.proofs.Common.{◌≡◌, ◌∙◌, [], ap}
use Rattle.gf_tree.specs.NodesLeft.{nodes_left}
use Rattle.gf_canon.proofs.lemmas.numbers.Noted.{empty_outcomes, empty_sets, walk_begins, walk_ends}
use Rattle.gf_canon.proofs.lemmas.numbers.Noted.{walk_goes, walk_is_even}
use Rattle.gf_canon.proofs.numbering.carry.numbers_between.Goals.{in-None, in-Some+in_default}
use Rattle.gf_canon.proofs.numbering.carry.numbers_between.Goals as goal

pub loop-node-init : goal.loop-node-init
loop-node-init c = λ r carries.
    walk_begins r c.args.g.now c.args.h.now carries
    (empty_sets c.new-sets.result c.new-sets.ensures.empty)
    (empty_outcomes c.new-outcomes.result c.new-outcomes.ensures.empty)
    (ap nodes_left c.into_iter-node-iterator.ensures.into_iter_gives ∙ c.nodes-node-items.ensures)
    c.nodes-others.ensures

pub loop-node-preserved : goal.loop-node-preserved
loop-node-preserved c = λ r carries.
    walk_goes r c.args.g.now (c.loop-node.invariant r carries) c.in-Some.ensures.steps
    c.in-Some-next.ensures.steps c.in_ok-note_set.ensures c.in_ok-note_outcome.ensures

pub returns : goal.returns
returns c =
    let none : nodes_left c.loop-node.node-iterator ≡ [] = elim c.match-next.branch [
      | in-None w ↦ w.in-None.ensures.steps.0
      | in-Some+in_default w ↦ absurd (walk_is_even c.requires.same.0 c.args.g.now
          (c.loop-node.invariant c.requires.same.0 c.requires.same.1) w.in-Some.ensures.steps
          w.in_default.ensures.steps.0)
    ] in
    walk_ends c.loop-node.sets c.loop-node.outcomes c.args.g.now c.args.h.now c.requires.game
    c.requires.same c.loop-node.invariant none
