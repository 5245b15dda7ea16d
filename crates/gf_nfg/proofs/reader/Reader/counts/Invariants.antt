use Rattle.gf_nfg.proofs.Common.{◌≡◌, ◌≤◌, ◌-◌, Counts, HasMore, answer}
use Rattle.gf_nfg.proofs.reader.Reader.counts.Given as goal

abbrev pub invariant-loop-due : goal.invariant-loop-due
invariant-loop-due l =
    (answer (Counts l.initial.due) l.initial.self ≡ answer (Counts l.due) l.self)
    × HasMore (l.initial.due - l.due) l.initial.self.heading l.self.heading
    × (l.due ≤ l.initial.due)

abbrev pub decreases-loop-due : goal.decreases-loop-due
decreases-loop-due l = l.due
