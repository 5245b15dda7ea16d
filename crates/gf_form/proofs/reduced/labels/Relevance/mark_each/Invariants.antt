use Rattle.gf_form.proofs.Common.{false, get_or, Marked, take}
use Rattle.gf_form.proofs.reduced.labels.Relevance.mark_each.Given as goal

abbrev pub invariant-loop-found : goal.invariant-loop-found
invariant-loop-found l =
    Marked (λ place f. get_or l.met place false) (take l.found-index l.strategies) l.fn.self l.self
