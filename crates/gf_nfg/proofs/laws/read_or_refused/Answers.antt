use Rattle.gf_nfg.proofs.lemmas.places.Once.{answered, not_both, refused_once}
use Rattle.gf_nfg.proofs.laws.read_or_refused.Goals as goal

pub returns-clause-one_of_both : goal.returns-clause-one_of_both
returns-clause-one_of_both c = answered

pub returns-clause-not_both : goal.returns-clause-not_both
returns-clause-not_both c = not_both

pub returns-clause-once : goal.returns-clause-once
returns-clause-once c = refused_once
