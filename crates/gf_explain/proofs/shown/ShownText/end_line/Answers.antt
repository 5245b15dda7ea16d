use Rattle.std.proofs.Common.{inr, refl, subst, sym}
use Rattle.gf_explain.specs.Place.{line_feed}
use Rattle.gf_explain.specs.Shown.{IsShown}
use Rattle.gf_explain.proofs.ShownTexts.{pushed}
use Rattle.gf_explain.proofs.shown.ShownText.end_line.Goals as goal

pub invariant_of-self : goal.invariant_of-self
invariant_of-self c = subst IsShown (sym c.push.ensures.bytes)
    (pushed _ _ line_feed c.self.invariant (inr refl))
