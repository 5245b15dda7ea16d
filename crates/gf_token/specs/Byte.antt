-- The bytes that separate tokens, and those that bare tokens are made of.
use Rattle.std.specs.Prelude.{ℕ, Bool, ◌&&◌, ◌||◌, not, nat_le, ◌==◌}

-- whitespace: the bytes 9 to 13 and 32
abbrev pub is_space : ℕ → Bool
is_space b = (nat_le 9 b && nat_le b 13) || b == 32

-- neither whitespace nor `{`, `}`, `,` or `"`
abbrev pub is_bare : ℕ → Bool
is_bare b = not (is_space b) && not (b == 123) && not (b == 125) && not (b == 44) && not (b == 34)
