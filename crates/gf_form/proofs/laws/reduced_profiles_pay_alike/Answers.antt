use Rattle.gf_form.proofs.lemmas.reduced.Reducing.{reduced_pay}
use Rattle.gf_form.proofs.laws.reduced_profiles_pay_alike.Goals as goal

pub returns-clause-payoffs : goal.returns-clause-payoffs
returns-clause-payoffs c g player p q hp hq e = reduced_pay g player p q e
