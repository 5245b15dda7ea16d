use Rattle.gf_tree.proofs.Common.{◌∙◌, arith}
use Rattle.gf_tree.proofs.lemmas.stores.NodeParts.{next_child}
use Rattle.gf_tree.proofs.game.branches.BranchesIterator.next.Goals as goal

pub at_place-branch-requires : goal.at_place-branch-requires
at_place-branch-requires c =
    let b = c.args.self.now in
    (next_child b.game.now.tree b.at b.before b.place b.within
    (omega (arith, c.if-self-child_count.false, c.child_count.ensures)) b.stands).within

pub place_after-requires : goal.place_after-requires
place_after-requires c =
    let b = c.args.self.now in
    (next_child b.game.now.tree b.at b.before b.place b.within
    (omega (arith, c.if-self-child_count.false, c.child_count.ensures)) b.stands).within

pub invariant_of-self : goal.invariant_of-self
invariant_of-self c =
    let b = c.args.self.now in
    let next = next_child b.game.now.tree b.at b.before b.place b.within
    (omega (arith, c.if-self-child_count.false, c.child_count.ensures)) b.stands in
    record {
      within = b.within;
      stands = c.place_after.ensures ∙ next.behind;
    }

pub returns-clause-steps : goal.returns-clause-steps
returns-clause-steps c = grind (arith, next_child)
