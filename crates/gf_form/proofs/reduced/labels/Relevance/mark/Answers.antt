use Rattle.gf_form.proofs.Common.{Bool, ap, arith, false, get_or, get_or_default, refl, set, ◌*◌, ◌+◌}
use Rattle.gf_form.proofs.Common.{◌||◌, ◌≡◌}
use Rattle.gf_form.proofs.lemmas.reduced.MarkedSets.{next_marked}
use Rattle.gf_form.proofs.reduced.labels.Relevance.mark.Goals as goal

pub loop-place-preserved : goal.loop-place-preserved
loop-place-preserved c =
    let flags = c.loop-place.self.flags.items in
    let at = c.args.found.place * c.args.self.now.sets + c.loop-place.place in
    let is : c.index_mut.result.now ≡ get_or flags at false =
    grind (arith, get_or_default, c.requires.room) in
    next_marked c.args.met.now c.args.found _ c.loop-place.self _ c.loop-place.place
    (omega (arith, c.loop-place-test.true, c.requires.counted)) c.requires.room
    c.loop-place.invariant refl
    (ap (λ (b : Bool). set flags at (b || get_or c.args.met.now c.loop-place.place false)) is)
