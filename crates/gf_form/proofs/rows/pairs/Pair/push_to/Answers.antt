use Rattle.gf_form.specs.inner.rows.Pairs.{IsPairAt}
use Rattle.gf_form.proofs.lemmas.rows.FlatRows.{in_bits, no_item, one_item}
use Rattle.gf_form.proofs.rows.pairs.Pair.push_to.Goals as goal

pub loop-place-init : goal.loop-place-init
loop-place-init c = no_item (IsPairAt c.args.self) c.args.rows.now.items

pub loop-place-preserved : goal.loop-place-preserved
loop-place-preserved c =
    let IsAt = IsPairAt c.args.self in
    let number = c.in-Some.number in
    one_item IsAt IsAt c.loop-place.place c.args.rows.now.items c.loop-place.rows.items
    c.push.new.self.items c.lowest.result c.in_ok-push.ensures.items (λ k f h. h) (
      c.lowest.ensures.fraction,
      rw (c.put.ensures, in_bits number c.in-Some.ensures.within, c.in-Some.ensures.sum)
          at c.lowest.ensures.value,
    )
    c.loop-place.invariant
