use Rattle.std.proofs.Common.{◌≡◌, ◌≤◌, ◌^◌, drop}
use Rattle.gf_fraction.specs.inner.NumberScan.{unread, capped, leading_value}

abbrev pub invariant-loop-i : Rattle.gf_fraction.proofs.read.wide_digits.Given.invariant-loop-i
invariant-loop-i l =
    (capped (leading_value l.fn.from l.text) ≡ capped (leading_value l.value (drop l.i l.text)))
    × (unread l.text ≡ unread (drop l.i l.text)) × (l.value ≤ 2 ^ 127)
