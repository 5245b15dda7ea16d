use Rattle.gf_form.proofs.Common.{list_any, ◌∙◌, ap}
use Rattle.gf_form.proofs.lemmas.reduced.VisitsFound.{find_relevance}
use Rattle.gf_form.proofs.reduced.survey.visits_in.Goals as goal

pub returns : goal.returns
returns c =
    find_relevance c.args.game.now c.requires.is_game _ _ c.requires.steps c.requires.fits _
    (λ test. c.drop_repeats.ensures test ∙ c.put_in_order.ensures.same test
    ∙ ap (list_any test) c.in_ok-visits.ensures)
