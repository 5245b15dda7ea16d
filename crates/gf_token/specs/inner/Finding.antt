-- What is found in the bytes from a place on. No public contract cites this file.
use Rattle.std.specs.Prelude.{◌≡◌, ℕ, ◌+◌, ◌<◌, ◌≤◌, true, false, List, [], ◌∷◌, length, drop}
use Rattle.std.specs.Prelude.{get_or, slice_range, take, Option, Result, Ok, Err}
use Rattle.std.specs.Char.{is_ascii_digit}
use Rattle.std.specs.Str.Parse.{AllDigits}
use Rattle.gf_fraction.specs.Ratio.{Ratio}
use Rattle.gf_fraction.specs.NumberSpelling.{IsNumber}
use Rattle.gf_fraction.specs.ReadOn.{IsLeft, IsReadOn}
use Rattle.gf_token.specs.Byte.{is_bare, is_space}
use Rattle.gf_token.specs.Index.{ReadsIndex}
use Rattle.gf_token.specs.LabelSpelling.{is_spelling}
use Rattle.gf_token.specs.Token.{Lexeme, lexeme}
use Rattle.gf_token.specs.Token.Token.{Bare, Text, Broken}
use Rattle.gf_token.specs.inner.Lexing.{lex}
use Rattle.gf_token.specs.inner.Lexing.Mode.{Gap}
use Rattle.gf_token.specs.HeldTokens.{lexeme_of}
use Rattle.gf_token.specs.declared.fault.Fault.{Fault}
use Rattle.gf_token.specs.declared.fault.Why.{Why}
use Rattle.gf_token.specs.declared.token.Token.{Token}

-- the tokens of the bytes from place `at` on
abbrev pub lexed : List ℕ → ℕ → List Lexeme
lexed bytes at = lex Gap at (drop at bytes)

-- the gap that begins at `start` ends at `end`
pub record EndsGap (bytes : List ℕ) (start end : ℕ) : Type 0 where
  pub within : end < length bytes
  pub same : lexed bytes start ≡ lexed bytes end
  pub other : is_space (get_or bytes end 0) ≡ false

-- the bare token that begins at `start` ends at `end` and spells a number
pub record FindsNumber (bytes : List ℕ) (start end : ℕ) (r : Ratio) : Type 0 where
  pub begins : start < end
  pub within : end ≤ length bytes
  pub found : lexed bytes start
      ≡ lexeme start end (Bare (slice_range bytes start end)) ∷ lexed bytes end
  pub number : IsNumber (slice_range bytes start end) r

-- after a byte of whitespace at `from`, a bare token ends at `end` and is read as this index
pub record FindsIndex (bytes : List ℕ) (from end : ℕ) (index : Option ℕ) : Type 0 where
  pub begins : from + 1 < end
  pub within : end ≤ length bytes
  pub found : lexed bytes from
      ≡ lexeme (from + 1) end (Bare (slice_range bytes (from + 1) end)) ∷ lexed bytes end
  pub read : ReadsIndex (slice_range bytes (from + 1) end) index

-- the digits from place `first` on, of which at most 19 count, end at `at`
pub record EndsDigits (bytes : List ℕ) (first at : ℕ) : Type 0 where
  pub begins : first < at
  pub within : at ≤ length bytes
  pub digits : AllDigits 10 (slice_range bytes first at)
  pub few : at ≤ first + 19
  pub stops : at < length bytes → at < first + 19 → is_ascii_digit (get_or bytes at 0) ≡ false

-- a number is not all read in one pass if its digits begin at `first`: no digit stands there, or
-- what follows the first digits is left, or more of a bare token follows what is read on
pub data IsNotShort (bytes : List ℕ) (first : ℕ) : Type 0 where
  no_digit : (first < length bytes → is_ascii_digit (get_or bytes first 0) ≡ false)
      → IsNotShort bytes first
  left : (at : ℕ) → EndsDigits bytes first at
      → IsLeft (drop at bytes) → IsNotShort bytes first
  more : (at len : ℕ) → EndsDigits bytes first at
      → IsReadOn (take len (drop at bytes)) (drop len (drop at bytes))
      → at + len < length bytes → is_bare (get_or bytes (at + len) 0) ≡ true
      → IsNotShort bytes first

-- the text that begins at `start` is closed by the quote at `end`
pub record ClosesText (bytes : List ℕ) (start end : ℕ) : Type 0 where
  pub begins : start < end
  pub within : end < length bytes
  pub spelled : is_spelling (slice_range bytes (start + 1) end) ≡ true
  pub found : lexed bytes start
      ≡ lexeme start (end + 1) (Text (slice_range bytes (start + 1) end)) ∷ lexed bytes (end + 1)

-- what is at `start`
abbrev pub Finds : List ℕ → ℕ → Result Token Fault → Type 0
Finds bytes start (Ok t) = lexed bytes start ≡ lexeme_of t ∷ lexed bytes t.span.end
Finds bytes start (Err f) =
    (f.why ≡ Why.Unterminated) × (lexed bytes start ≡ lexeme f.span.start f.span.end Broken ∷ [])
