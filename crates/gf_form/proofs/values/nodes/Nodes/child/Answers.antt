use Rattle.gf_form.proofs.Common.{arith}
use Rattle.gf_form.proofs.lemmas.values.Walks.{child_there}
use Rattle.gf_form.proofs.values.nodes.Nodes.child.Goals as goal

pub overflow_add-result : goal.overflow_add-result
overflow_add-result c =
    let inside = child_there c.requires.nodes.0 c.args.self.now c.args.at c.args.before
    c.index-2.result.now c.index.result.now c.requires.nodes.1 c.requires.there (grind arith)
    (grind arith) (grind arith) in
    record { fits = omega (arith, inside.0, c.args.self.now.branches.ok.0) }

pub returns : goal.returns
returns c g are =
    child_there g c.args.self.now c.args.at c.args.before c.index-2.result.now c.index.result.now
    are c.requires.there (grind arith) (grind arith) (grind arith)
