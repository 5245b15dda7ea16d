use Rattle.gf_nfg.proofs.Common.{content_told, told_of}
use Rattle.gf_nfg.proofs.lemmas.runs.ReaderSteps.{all_told}
use Rattle.gf_nfg.proofs.reader.Reader.tell_payoffs.Goals as goal

pub returns : goal.returns
returns g c = λ b start same.
    let h = c.in_ok-payoffs.ensures b (rw c.all_payoffs-due.ensures start) in
    let told = told_of b h.payoffs h.numbers in
    all_told (g.R.Receive.holds b.untold) c.end.result told same h.unnumbered h.holding h.goes
    (c.end.ensures.flat (content_told told))
