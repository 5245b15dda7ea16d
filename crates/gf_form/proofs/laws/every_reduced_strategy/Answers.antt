use Rattle.gf_form.proofs.lemmas.reduced.ReducedForms.{each_comes, each_once, labels_differ}
use Rattle.gf_form.proofs.laws.every_reduced_strategy.Goals as goal

pub returns : goal.returns
returns c = record { each_comes = each_comes; each_once = each_once; labels_differ = labels_differ }
