use Rattle.gf_form.proofs.lemmas.reduced.Coming.{agree_reduced}
use Rattle.gf_form.proofs.lemmas.reduced.Reducing.{reduced_agree}
use Rattle.gf_form.proofs.laws.reduced_strategies_agree.Goals as goal

pub returns : goal.returns
returns c g player s t game spellable above hs ht =
    (reduced_agree g player s t, agree_reduced g game spellable player above s t hs ht)
