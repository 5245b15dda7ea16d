use Rattle.gf_form.proofs.Common.{AreFoundTo, arith, subst, ◌≡◌, ◌+◌}
use Rattle.gf_form.proofs.lemmas.reduced.FirstStrategies.{first_kept}
use Rattle.gf_form.proofs.reduced.first.Search.push_all.Goals as goal

pub loop-before-preserved : goal.loop-before-preserved
loop-before-preserved c =
    let g = c.args.player.now.game.now in
    let player = c.args.player.now.number in
    let n = c.args.number + c.loop-before.before in
    let next : n + 1 ≡ c.args.number + (c.loop-before.before + 1) = omega arith in
    subst (AreFoundTo g player c.push.new.self.items) next
    (first_kept g c.requires.is_game player c.loop-before.self.numbers.items
    c.push.new.self.items n (omega (arith, c.loop-before-test.true, c.requires.within))
    c.loop-before.invariant
    (c.requires.firsts n (omega arith) (omega (arith, c.loop-before-test.true)))
    c.in_ok-push.ensures.items)
