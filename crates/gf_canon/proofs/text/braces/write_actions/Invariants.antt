use Rattle.gf_canon.proofs.Common.{◌≡◌, ◌++◌, drop, Keeps}
use Rattle.gf_canon.proofs.lemmas.texts.Fields.{actions_left}
use Rattle.gf_canon.proofs.text.braces.write_actions.Given as goal

abbrev pub invariant-loop-action : goal.invariant-loop-action
invariant-loop-action l =
    (l.out.items ++ actions_left (drop l.action-index l.actions)
    ≡ l.initial.out.items ++ actions_left l.actions)
    × Keeps l.fn.out.items l.out.items
