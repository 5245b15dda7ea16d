use Rattle.gf_tree.proofs.Common.{rules}
use Rattle.gf_tree.proofs.lemmas.reader.Steps.{refused_why}
use Rattle.gf_tree.proofs.lemmas.reader.ToldGames.{refused_for_memory}
use Rattle.gf_tree.proofs.read.tell_efg.Goals as goal

pub returns-in_err-read-clause-only : goal.returns-in_err-read-clause-only
returns-in_err-read-clause-only r c = refused_why c.in_err-read.field-0.0 _ c.from_residual.result
    (search rules) (refused_for_memory c.in_err-read.ensures)
