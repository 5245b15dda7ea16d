use Rattle.gf_canon.proofs.Common.{◌≡◌, ◌∙◌, IfOk, ap, arith, map, subst, Vec, Global, ℕ}
use Rattle.gf_canon.proofs.Common.{common_steps, positions, Game}
use Rattle.gf_canon.proofs.lemmas.numbers.Canonical.{canonical_by, listed_by}
use Rattle.gf_canon.proofs.numbering.renumber.Goals as goal

pub with_numbers-requires : goal.with_numbers-requires
with_numbers-requires c = grind (arith, common_steps, listed_by)

pub returns : goal.returns
returns c =
    subst (λ (g : Game). IfOk c.with_numbers.result (λ game. game ≡ g))
    (canonical_by c.args.g.now (map (λ own. own.items) c.deref.result.now) c.deref-2.result.now
    c.set_numbers.ensures.is_game
    (ap (map (λ (own : Vec ℕ Global). own.items)) c.deref.ensures.value
    ∙ c.in_ok-sets.ensures.lists)
    (c.deref-2.ensures.value ∙ c.in_ok-outcomes.ensures
    ∙ ap positions c.outcome_count.ensures.count))
    c.with_numbers.ensures
