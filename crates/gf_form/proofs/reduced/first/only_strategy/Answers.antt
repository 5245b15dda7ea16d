use Rattle.gf_form.proofs.Common.{AreFirstsOf, product, subst, ◌++◌, List, ◌∷◌, ◌∙◌, sym, [], ap, ℕ}
use Rattle.gf_form.proofs.lemmas.reduced.Coming.{only_first}
use Rattle.gf_form.proofs.reduced.first.only_strategy.Goals as goal

pub returns-clause-firsts : goal.returns-clause-firsts
returns-clause-firsts c =
    subst (λ (numbers : List ℕ). AreFirstsOf c.args.game.now numbers c.args.player)
    (sym (c.in_ok-push.ensures.items
    ∙ ap (λ (numbers : List ℕ). numbers ++ 0 ∷ []) c.in_ok-firsts.ensures.items))
    (only_first c.args.game.now c.requires.is_game c.args.player
    (sym (ap product c.requires.counts) ∙ c.requires.one))
