use Rattle.gf_canon.proofs.Common.{length, arith, decimal, refl, set, ◌+◌, ap, ℕ}
use Rattle.gf_canon.proofs.lemmas.texts.Fields.{counted, spaced_from}
use Rattle.gf_canon.proofs.text.numbers.write_number.Goals as goal

pub returns-clause-written : goal.returns-clause-written
returns-clause-written c =
    let w = c.write_digits in
    let number = c.args.number in
    let count = counted c.ilog10.result number c.ilog10.ensures.power_le
    c.ilog10.ensures.next_power_gt (omega (arith, c.ranges.number.fits)) in
    let same = ap (λ (n : ℕ). length (decimal n)) c.from.ensures in
    let written = spaced_from c.args.text.now (set c.args.text.now c.args.at 32) w.new.buf
    (decimal c.from.result) _ c.args.at w.result (c.args.at + 2 + c.ilog10.result)
    (omega (arith, w.ensures.start, count, same)) (omega (arith, c.requires)) refl w.ensures.start
    w.ensures.before w.ensures.written in
    cc (written, c.from.ensures)
