use Rattle.gf_form.proofs.Common.{ℕ, suc, ◌<◌, [], map, get_or, action_counts}
use Rattle.gf_form.proofs.lemmas.strategies.Chosen.{IsChoice}
use Rattle.gf_form.proofs.strategies.valid.are_strategies.Given as goal

abbrev pub invariant-loop-before : goal.invariant-loop-before
invariant-loop-before l = (k : ℕ) → k < l.before
    → IsChoice (action_counts l.game (suc k)) (get_or (map (λ own. own.items) l.choices) k [])
