use Rattle.std.proofs.Common.{◌+◌, ◌≤◌, take}
use Rattle.gf_explain.specs.Place.{IsPlaceAfter}
use Rattle.gf_explain.proofs.place.place_after.Given as goal

-- the place after the bytes so far
abbrev pub invariant-loop-byte : goal.invariant-loop-byte
invariant-loop-byte l = IsPlaceAfter (take l.byte-index l.bytes) l.place
    × (l.place.line ≤ l.byte-index + 1) × (l.place.column ≤ l.byte-index + 1)
