use Rattle.gf_nfg.proofs.Common.{arith, content_told, refl, rules, told_of}
use Rattle.gf_nfg.proofs.lemmas.runs.ReaderSteps.{all_told, ends_back}
use Rattle.gf_nfg.proofs.reader.Reader.tell_outcomes.Goals as goal

pub returns-in_err-numbers : goal.returns-in_err-numbers
returns-in_err-numbers g c = λ b outcomes start same.
    let h = c.in_ok-outcomes.ensures b c.args.self.now.heading.profiles.count
    (rw same (omega (arith, c.len.ensures))) (rw same refl) start in
    ends_back {r = c.from_residual-in_err-numbers.result} _ (search rules)
    (c.in_err-numbers.ensures b h.0 h.1 outcomes h.2)

pub returns : goal.returns
returns g c = λ b outcomes start same.
    let h = c.in_ok-outcomes.ensures b c.args.self.now.heading.profiles.count
    (rw same (omega (arith, c.len.ensures))) (rw same refl) start in
    let n = c.in_ok-numbers.ensures b h.0 h.1 outcomes h.2 in
    let told = told_of b n.payoffs n.numbers in
    all_told (g.R.Receive.holds b.untold) c.end.result told same n.unnumbered n.holding n.goes
    (c.end.ensures.chosen (content_told told) h.0)
