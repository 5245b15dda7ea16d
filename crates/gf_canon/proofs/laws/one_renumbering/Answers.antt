use Rattle.gf_canon.proofs.Common.{only_sets, only_outcomes}
use Rattle.gf_canon.proofs.laws.one_renumbering.Goals as goal

pub returns-clause-sets : goal.returns-clause-sets
returns-clause-sets c = only_sets

pub returns-clause-outcomes : goal.returns-clause-outcomes
returns-clause-outcomes c = only_outcomes
