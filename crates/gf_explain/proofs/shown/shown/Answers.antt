use Rattle.std.proofs.Common.{◌∙◌, ap}
use Rattle.gf_explain.specs.Shown.{is_obeyed}
use Rattle.gf_explain.proofs.Obeyed.{of_shown, of_space}
use Rattle.gf_explain.proofs.shown.shown.Goals as goal

pub returns-then-character-eq9 : goal.returns-then-character-eq9
returns-then-character-eq9 c = of_space

pub returns-else-character-eq9 : goal.returns-else-character-eq9
returns-else-character-eq9 c = ap is_obeyed c.shown_in_name.ensures ∙ of_shown c.args.character
