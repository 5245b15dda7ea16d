-- The line and the column of a place in a file.
use Rattle.std.specs.Prelude.{◌≡◌, ◌⊎◌, ℕ, ◌+◌, nat_eq, List, [], ◌∷◌, ◌++◌, count_by, length}
use Rattle.gf_explain.specs.declared.place.Place.{Place}

-- a line feed
abbrev pub line_feed : ℕ
line_feed = 10

-- how many line feeds there are
abbrev pub line_feeds : List ℕ → ℕ
line_feeds = count_by (nat_eq line_feed)

-- the text ends with a line feed
abbrev pub EndsLine : List ℕ → Type 0
EndsLine text = (before : List ℕ) × (text ≡ before ++ line_feed ∷ [])

-- the text is empty, or ends with a line feed
abbrev pub BeginsLine : List ℕ → Type 0
BeginsLine text = (text ≡ []) ⊎ EndsLine text

-- the line that a text ends with: the bytes since its last line feed, all of it if it has none
pub record IsLastLine (text line : List ℕ) : Type 0 where
  pub before : List ℕ
  pub is_text : text ≡ before ++ line
  pub begins : BeginsLine before
  pub whole : line_feeds line ≡ 0

-- the place after a text: its line is 1 plus the number of line feeds in the text, and its column
-- is 1 plus the number of bytes since the last of them
pub record IsPlaceAfter (text : List ℕ) (place : Place) : Type 0 where
  pub line : place.line ≡ line_feeds text + 1
  pub last : List ℕ
  pub is_last : IsLastLine text last
  pub column : place.column ≡ length last + 1
