use Rattle.gf_canon.proofs.lemmas.sameness.Files.{reflexive, symmetric, transitive}
use Rattle.gf_canon.proofs.laws.same_is_equivalence.Goals as goal

pub returns-clause-reflexive : goal.returns-clause-reflexive
returns-clause-reflexive c = reflexive

pub returns-clause-symmetric : goal.returns-clause-symmetric
returns-clause-symmetric c = symmetric

pub returns-clause-transitive : goal.returns-clause-transitive
returns-clause-transitive c = transitive
