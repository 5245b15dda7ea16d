use Rattle.std.proofs.Common.{◌≡◌, ◌<◌, ◌≤◌, ◌^◌, length, take, min}
use Rattle.std.specs.Str.Parse.{AllDigits, digits_value}

abbrev pub invariant-loop-byte : Rattle.gf_token.proofs.index.read_index.Given.invariant-loop-byte
invariant-loop-byte l = record {
  digits : AllDigits 10 (take l.byte-index l.text);
  value : min l.value (2 ^ 32) ≡ min (digits_value 10 (take l.byte-index l.text)) (2 ^ 32);
  short : length l.text ≤ 19 → l.value < 10 ^ l.byte-index;
  long : 19 < length l.text → l.value ≤ 2 ^ 32;
}
