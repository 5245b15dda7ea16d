-- What bare tokens are read as if an index is due, computed, for the machines of the crates above.
-- No contract here cites this file: proofs/ReadingIndices proves that it agrees with `IsIndex`.
use Rattle.std.specs.Prelude.{ℕ, zero, suc, ◌^◌, Bool, ◌&&◌, nat_lt, List}
use Rattle.std.specs.Prelude.{length, Option, Some, None, if◌then◌else◌}
use Rattle.std.specs.List.{list_all}
use Rattle.std.specs.Char.{is_ascii_digit}
use Rattle.std.specs.Str.Parse.{digits_value}

-- only digits, at least one
abbrev pub is_numeral : List ℕ → Bool
is_numeral bytes = nat_lt 0 (length bytes) && list_all is_ascii_digit bytes

-- the index that the bytes are, if they are one
unfoldable pub index_of : List ℕ → Option ℕ
index_of bytes =
    if is_numeral bytes
    then (if nat_lt (digits_value 10 bytes) (2 ^ 32) then Some (digits_value 10 bytes) else None)
    else None

abbrev pub positive : Option ℕ → Option ℕ
positive None = None
positive (Some zero) = None
positive (Some (suc n)) = Some (suc n)

-- the count that the bytes are: an index above zero
abbrev pub count_of : List ℕ → Option ℕ
count_of bytes = positive (index_of bytes)
