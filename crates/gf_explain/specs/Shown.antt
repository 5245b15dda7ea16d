-- What is shown at a terminal.
use Rattle.std.specs.Prelude.{◌≡◌, ◌⊎◌, ℕ, Bool, ◌||◌, false, if◌then◌else◌, List, map, All, chars}
use Rattle.std.specs.Prelude.{encode_utf8_all}
use Rattle.std.specs.Char.{is_control}
use Rattle.ucd_props.specs.Binary.{is_bidi_control}
use Rattle.gf_explain.specs.Place.{line_feed}

-- a question mark
abbrev pub question_mark : ℕ
question_mark = 63

-- a character that is not shown, since a terminal obeys it: a control character, or one that sets
-- the direction of a text
abbrev pub is_obeyed : ℕ → Bool
is_obeyed c = is_control c || is_bidi_control c

-- a character of a name as it is shown: a question mark in place of one that a terminal obeys
abbrev pub shown_character : ℕ → ℕ
shown_character c = if is_obeyed c then question_mark else c

-- the name of a file as it is shown
abbrev pub shown_name : List ℕ → List ℕ
shown_name name = encode_utf8_all (map shown_character (chars name))

-- a character that may be shown: a line feed, or one that no terminal obeys
abbrev pub IsShowable : ℕ → Type 0
IsShowable c = (is_obeyed c ≡ false) ⊎ (c ≡ line_feed)

-- a text of such characters
pub record IsShown (text : List ℕ) : Type 0 where
  pub characters : List ℕ
  pub are_showable : All IsShowable characters
  pub is_text : text ≡ encode_utf8_all characters
