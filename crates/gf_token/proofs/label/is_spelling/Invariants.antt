use Rattle.std.proofs.Common.{◌≡◌, drop}
use Rattle.gf_token.specs.LabelSpelling.{is_spelling, is_spelling_after}

-- the answer is that of the bytes that are left
abbrev pub invariant-loop-byte : Rattle.gf_token.proofs.label.is_spelling.Given.invariant-loop-byte
invariant-loop-byte l = is_spelling l.raw ≡ is_spelling_after l.before (drop l.byte-index l.raw)
