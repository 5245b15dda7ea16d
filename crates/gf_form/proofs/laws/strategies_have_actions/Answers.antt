use Rattle.gf_form.proofs.lemmas.strategies.Chosen.{have_actions}
use Rattle.gf_form.proofs.laws.strategies_have_actions.Goals as goal

pub returns-clause-actions : goal.returns-clause-actions
returns-clause-actions c g all game h = have_actions g game all h
