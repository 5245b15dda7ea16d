use Rattle.gf_nfg.proofs.Common.{◌≡◌, ◌≤◌, ℕ, length, HasMore, InList, answer}
use Rattle.gf_nfg.proofs.reader.Reader.list.Given as goal

abbrev pub invariant-loop-strategy : goal.invariant-loop-strategy
invariant-loop-strategy l =
    ((left : ℕ) → answer (InList left 0) l.fn.self ≡ answer (InList left l.strategies) l.self)
    × (l.strategies ≤ length l.self.heading.labels.items)
    × HasMore 0 l.fn.self.heading l.self.heading

abbrev pub decreases-loop-strategy : goal.decreases-loop-strategy
decreases-loop-strategy l = length l.self.tokens.ahead
