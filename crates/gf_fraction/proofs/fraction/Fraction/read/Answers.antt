use Rattle.std.proofs.Common.{arith, ◌≡◌, ◌∙◌, ℕ, List, Bool, ap, sym, Some}
use Rattle.std.proofs.lemmas.Result.{MatchResult-weaker}
use Rattle.gf_fraction.specs.inner.NumberScan.{after_sign, is_minus, scan}
use Rattle.gf_fraction.specs.declared.read.Spelling.{Spelling}
use Rattle.gf_fraction.proofs.FoundIsSpelled.{FoundNumber, found_number}
use Rattle.gf_fraction.proofs.AnswersFromScans.{number_from_value, fault_from_reading, unspelled}
use Rattle.gf_fraction.proofs.fraction.Fraction.read.Goals as goal

-- what is found after the sign
found : (text rest : List ℕ) (negative : Bool) (s : Spelling) → negative ≡ is_minus text
    → rest ≡ after_sign text → scan rest ≡ Some s → FoundNumber text negative s
found text rest negative s sign after scanned = grind (arith, found_number)

pub returns-in-Some-scan : goal.returns-in-Some-scan
returns-in-Some-scan c =
    let text = c.args.text.now in
    let sign = c.split_sign-negative in
    let s = c.in-Some-scan.spelling in
    let f = found text sign.result.1.now sign.result.0 s sign.ensures.negative sign.ensures.rest
    (sym c.scan.ensures ∙ c.in-Some-scan.is) in
    MatchResult-weaker c.value.result c.value.ensures
    (λ r v. number_from_value text sign.result.0 s r f v)
    (λ fault h. fault_from_reading text sign.result.0 s fault f h)

pub returns-in-None : goal.returns-in-None
returns-in-None c =
    unspelled c.args.text.now
    (ap scan (sym c.split_sign-negative.ensures.rest) ∙ sym c.scan.ensures ∙ c.in-None.is)
