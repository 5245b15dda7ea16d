use Rattle.gf_form.proofs.Common.{arith, length-map, option_map}
use Rattle.gf_form.proofs.values.walk.Walk.action.Goals as goal

pub returns : goal.returns
returns c key is =
    grind (
      arith,
      option_map,
      length-map,
      c.requires.mover,
      c.action.ensures,
      c.requires.is_game,
      c.requires.walk.choices,
      c.requires.personal,
    )
