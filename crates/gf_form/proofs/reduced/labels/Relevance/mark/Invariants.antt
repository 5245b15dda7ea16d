use Rattle.gf_form.proofs.Common.{false, get_or, Marked, nat_lt, ◌&&◌, ◌∷◌, []}
use Rattle.gf_form.proofs.reduced.labels.Relevance.mark.Given as goal

abbrev pub invariant-loop-place : goal.invariant-loop-place
invariant-loop-place l =
    Marked (λ place f. nat_lt place l.place && get_or l.met place false) (l.fn.found ∷ []) l.fn.self l.self
