use Rattle.std.proofs.Common.{◌≡◌, ◌≤◌, ◌<◌, ◌-◌}
use Rattle.std.specs.Prelude.{slice_range}
use Rattle.std.specs.Str.Parse.{AllDigits, digits_value}

abbrev pub invariant-loop-at : Rattle.gf_token.proofs.scan.digits_before.Given.invariant-loop-at
invariant-loop-at l = record {
  within : l.at ≤ l.stop;
  begins : l.first < l.at;
  digits : AllDigits 10 (slice_range l.input l.first l.at);
  value : l.value ≡ digits_value 10 (slice_range l.input l.first l.at);
}

abbrev pub decreases-loop-at : Rattle.gf_token.proofs.scan.digits_before.Given.decreases-loop-at
decreases-loop-at l = l.stop - l.at
