use Rattle.std.proofs.Common.{inl, subst, sym}
use Rattle.gf_explain.specs.Shown.{IsShown}
use Rattle.gf_explain.proofs.ShownTexts.{pushed}
use Rattle.gf_explain.proofs.shown.ShownText.push.Goals as goal

pub invariant_of-self : goal.invariant_of-self
invariant_of-self c = subst IsShown (sym c.push.ensures.bytes)
    (pushed _ _ c.shown.result c.self.invariant (inl c.shown.ensures))
