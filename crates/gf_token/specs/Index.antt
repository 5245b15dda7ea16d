-- Indices: counts, and the numbers of players, information sets and outcomes.
use Rattle.std.specs.Prelude.{◌≡◌, ℕ, ◌<◌, ◌^◌, List, length, Option, MatchOption}
use Rattle.std.specs.Str.Parse.{AllDigits, digits_value}

-- only digits, at least one
abbrev pub IsDigits : List ℕ → Type 0
IsDigits bytes = (0 < length bytes) × AllDigits 10 bytes

-- digits of value n, which is at most 4,294,967,295
abbrev pub IsIndex : List ℕ → ℕ → Type 0
IsIndex bytes n = IsDigits bytes × (digits_value 10 bytes ≡ n) × (n < 2 ^ 32)

-- what the bytes are read as if an index is due: the index that they are, if they are one
abbrev pub ReadsIndex : List ℕ → Option ℕ → Type 0
ReadsIndex bytes read = MatchOption read ((n : ℕ) → ¬ (IsIndex bytes n)) (λ n. IsIndex bytes n)

-- an index above 0
abbrev pub IsPositive : List ℕ → ℕ → Type 0
IsPositive bytes n = IsIndex bytes n × (0 < n)
