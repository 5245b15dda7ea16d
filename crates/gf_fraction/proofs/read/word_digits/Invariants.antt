use Rattle.std.proofs.Common.{◌≡◌, ◌≤◌, ◌-◌, length, take}
use Rattle.std.specs.Prelude.{◌⊎◌, []}
use Rattle.std.specs.Str.Parse.{AllDigits, digits_value_after}
use Rattle.gf_fraction.specs.inner.ShortNumber.{IsShort}

abbrev pub invariant-loop-len : Rattle.gf_fraction.proofs.read.word_digits.Given.invariant-loop-len
invariant-loop-len l = record {
  within : l.len ≤ length l.text;
  all : AllDigits 10 (take l.len l.text);
  value : l.value ≡ digits_value_after 10 l.fn.from (take l.len l.text);
  short : (take l.len l.text ≡ []) ⊎ (IsShort l.value);
}

abbrev pub decreases-loop-len : Rattle.gf_fraction.proofs.read.word_digits.Given.decreases-loop-len
decreases-loop-len l = length l.text - l.len
