-- The tokens of a byte list, found byte by byte. No public contract cites this file: what is found
-- is what `TokenSpelling` says.
use Rattle.std.specs.Prelude.{ℕ, ◌+◌, ◌&&◌, not, List, [], ◌∷◌, ◌++◌, ◌==◌, if◌then◌else◌}
use Rattle.gf_token.specs.Byte.{is_bare}
use Rattle.gf_token.specs.Token.{Lexeme, lexeme}
use Rattle.gf_token.specs.Token.Token.{Opening, Closing, Comma, Text, Bare, Broken}

-- between tokens; in a text: where it begins, the byte before, and the bytes after its quote so
-- far; in a bare token: where it begins, and its bytes so far
pub data Mode : Type 0 where
  Gap : Mode
  InText : ℕ → ℕ → List ℕ → Mode
  InBare : ℕ → List ℕ → Mode

-- what a byte between tokens begins
abbrev pub begins : ℕ → ℕ → Mode
begins at b = if is_bare b then InBare at (b ∷ []) else (if b == 34 then InText at 34 [] else Gap)

-- the token that it is
abbrev pub single : ℕ → ℕ → List Lexeme
single at b =
    if b == 123 then lexeme at (at + 1) Opening ∷ []
    else (if b == 125 then lexeme at (at + 1) Closing ∷ []
    else (if b == 44 then lexeme at (at + 1) Comma ∷ [] else []))

-- the tokens that end at a byte
abbrev pub ended : Mode → ℕ → ℕ → List Lexeme
ended Gap at b = single at b
ended (InText start before text) at b =
    if b == 34 && not (before == 92) then lexeme start (at + 1) (Text text) ∷ [] else []
ended (InBare start text) at b = if is_bare b then [] else lexeme start at (Bare text) ∷ single at b

-- where a byte leads
abbrev pub after : Mode → ℕ → ℕ → Mode
after Gap at b = begins at b
after (InText start before text) at b =
    if b == 34 && not (before == 92) then Gap else InText start b (text ++ b ∷ [])
after (InBare start text) at b = if is_bare b then InBare start (text ++ b ∷ []) else begins at b

-- the tokens that end where the bytes do
abbrev pub last : Mode → ℕ → List Lexeme
last Gap at = []
last (InText start before text) at = lexeme start (start + 1) Broken ∷ []
last (InBare start text) at = lexeme start at (Bare text) ∷ []

-- the tokens of the bytes from place `at` on
unfoldable pub lex : Mode → ℕ → List ℕ → List Lexeme
lex mode at [] = last mode at
lex mode at (b ∷ bs) = ended mode at b ++ lex (after mode at b) (at + 1) bs
