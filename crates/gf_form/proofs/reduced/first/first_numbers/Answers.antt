use Rattle.gf_form.proofs.Common.{IsLevel, arith, subst, ◌∙◌, ◌≡◌, ◌+◌, ℕ}
use Rattle.gf_form.proofs.lemmas.reduced.SearchStarts.{firsts_are, searched_all}
use Rattle.gf_form.proofs.reduced.first.first_numbers.Goals as goal

pub push_below-requires-clause-below : goal.push_below-requires-clause-below
push_below-requires-clause-below c =
    rw c.deref-3.ensures.value (searched_all c.requires.player (omega arith) c.requires.visits
    c.in_ok-level.level c.in_ok-level.ensures.unknown c.in_ok-own.own.items
    (rw c.deref.ensures.value at c.in_ok-own.ensures)
    (rw c.deref-2.ensures.value at c.in_ok-level.ensures.visits)
    (subst (λ (positions : ℕ). IsLevel positions c.in_ok-level.level)
    (c.len.ensures ∙ c.args.player.now.digits.ok.0) c.in_ok-level.ensures.level))

pub returns : goal.returns
returns c =
    let all : 0 + c.args.player.now.whole ≡ c.args.player.now.whole = omega arith in
    firsts_are c.requires.player _ (rw all at c.in_ok-push_below.ensures.found)
