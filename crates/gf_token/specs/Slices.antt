-- Where tokens stand in an input.
use Rattle.std.specs.Prelude.{◌≡◌, ℕ, ◌<◌, ◌≤◌, List, length, slice_range}
use Rattle.gf_token.specs.Token.{Lexeme, spelling}

-- a token's span is not empty, lies within the bytes, and is the slice of them that spells the
-- token
pub record StandsIn (bytes : List ℕ) (l : Lexeme) : Type 0 where
  pub some : l.start < l.end
  pub within : l.end ≤ length bytes
  pub slice : slice_range bytes l.start l.end ≡ spelling l.token
