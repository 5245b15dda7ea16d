use Rattle.gf_nfg.proofs.Common.{[], refl}
use Rattle.gf_nfg.proofs.reader.Reader.tell.Goals as goal

pub returns-in-Payoffs : goal.returns-in-Payoffs
returns-in-Payoffs g c =
    let goes = rw c.in-Payoffs.is at c.in_ok-version.ensures.machine in
    let holding = rw c.in-Payoffs.is at c.in_ok-tell_heading.ensures in
    c.tell_payoffs.ensures _
    (record { payoffs = []; numbers = []; unnumbered = λ e. refl; goes = goes; holding = holding })
    refl

pub returns-in-Outcomes : goal.returns-in-Outcomes
returns-in-Outcomes g c =
    let goes = rw c.in-Outcomes.is at c.in_ok-version.ensures.machine in
    let holding = rw c.in-Outcomes.is at c.in_ok-tell_heading.ensures in
    c.tell_outcomes.ensures _ refl
    (record { payoffs = []; numbers = []; unnumbered = λ e. refl; goes = goes; holding = holding })
    refl
