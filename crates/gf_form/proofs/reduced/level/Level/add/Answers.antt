use Rattle.gf_form.proofs.lemmas.reduced.LevelsChosen.{is_pushed}
use Rattle.gf_form.proofs.reduced.level.Level.add.Goals as goal

pub returns : goal.returns
returns c = is_pushed _ c.args.self.now _ c.in_ok-push.ensures.items
