use Rattle.gf_form.proofs.Common.{◌*◌, refl}
use Rattle.gf_form.proofs.lemmas.reduced.LevelsChosen.{parts_are}
use Rattle.gf_form.proofs.reduced.level.parts_of.Goals as goal

pub returns : goal.returns
returns c =
    parts_are c.args.step c.args.action c.args.visits.now _ _ _ _ _ c.count_below.ensures
    c.split_at.ensures.back c.count_below-2.ensures c.split_at-2.ensures.back
    c.count_below-3.ensures c.requires.ordered
    (record {
      free = c.split_at.result.0;
      own = c.split_at-3.result.0;
      lowest = c.args.action * c.args.step;
    })
    c.split_at.ensures.front c.split_at-3.ensures.front refl
