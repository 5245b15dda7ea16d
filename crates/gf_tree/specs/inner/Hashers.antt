-- Hashers of numbers, whose start depends on an input.
use Rattle.std.specs.Prelude.{◌*◌, ◌/◌, ◌%◌, ◌^◌, ℕ, List, [], ◌∷◌, bit_xor}
use Rattle.std.specs.List.{fold}
use Rattle.std.specs.declared.hash.FoldHasher.{FoldHasher}
use Rattle.gf_tree.specs.declared.hashers.Hashers.{Hashers}
use Rattle.gf_tree.specs.declared.hashers.NumberHasher.{NumberHasher}
use Rattle.std.specs.Hash as fed
use Rattle.std.specs.Hash.DefaultHasher as sip
use Rattle.std.specs.Hash.FoldHasher as folding

-- the fast hasher, fed with the SipHash of the input
abbrev pub start_for : List ℕ → FoldHasher
start_for input =
    fold folding.write folding.initial (fed.u64 (sip.finish (sip.write sip.initial input)))

abbrev pub number_hasher : Hashers → NumberHasher
number_hasher h = record { hasher = h.start; last_bits = 0 }

-- all but the last two bits of what is written, the lowest byte first, go to the fast hasher
unfoldable pub number_write : NumberHasher → List ℕ → NumberHasher
number_write h [] = h
number_write h (lowest ∷ others) =
    record { hasher = folding.write (folding.write h.hasher (lowest / 4 ∷ [])) others; last_bits = lowest % 4 }

abbrev pub number_finish : NumberHasher → ℕ
number_finish h = bit_xor (folding.finish h.hasher) (h.last_bits * 2 ^ 24)
