use Rattle.std.proofs.lemmas.Grind.{common_steps}
use Rattle.gf_tree.proofs.Common.{arith, rules, label_of}
use Rattle.gf_tree.proofs.lemmas.reader.Steps.{carried, fails_back}
use Rattle.gf_tree.proofs.reader.Reader.personal_node.Goals as goal

pub returns-in_err-player : goal.returns-in_err-player
returns-in_err-player g c = fails_back {r = c.from_residual.result} _ (search rules)
    (carried (c.in_err-player.ensures.machine (label_of c.in-Some.name.label)) (search rules))

pub returns-in_err-place : goal.returns-in_err-place
returns-in_err-place g c =
    fails_back {r = c.from_residual-in_err-place.result} _ (search rules)
    (carried (c.in_err-place.ensures.machine (label_of c.in-Some.name.label)) (search rules))

pub returns : goal.returns
returns g c = grind (arith, common_steps)
