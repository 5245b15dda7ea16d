use Rattle.gf_canon.proofs.Common.{◌∙◌, ap, NewNumbers, new_set_number}
use Rattle.gf_canon.proofs.lemmas.numbers.Kept.{kept_set}
use Rattle.gf_canon.proofs.numbering.new_numbers.Renumbering.set.Goals as goal

pub returns : goal.returns
returns c = c.copied.ensures ∙ c.get.ensures.value
    ∙ kept_set c.self.inside.sets c.self.inside.outcomes c.args.player c.args.number
    ∙ ap (λ (r : NewNumbers). new_set_number r c.args.player c.args.number) c.self.view_is
