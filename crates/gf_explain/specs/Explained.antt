-- How a refusal is explained in words.
use Rattle.std.specs.Prelude.{◌≡◌, ◌≢◌, ℕ, List, ◌++◌, codes, decimal, take}
use Rattle.gf_token.specs.declared.fault.Fault.{Fault}
use Rattle.gf_token.specs.declared.fault.Why.TheVariants.{TooLong}
use Rattle.gf_explain.specs.FaultLine.{place_text}
use Rattle.gf_explain.specs.Place.{EndsLine, IsPlaceAfter}
use Rattle.gf_explain.specs.Shown.{IsShown, shown_name}
use Rattle.gf_explain.specs.declared.place.Place.{Place}

-- the name of a file, and a line and a column in it
abbrev pub placed_text : List ℕ → Place → List ℕ
placed_text name place = name ++ codes ":" ++ decimal place.line ++ codes ":"
    ++ decimal place.column ++ codes ": "

-- only the name
abbrev pub unplaced_text : List ℕ → List ℕ
unplaced_text name = name ++ codes ": "

-- where a refusal is: the place after the bytes before it; for a file that is too long, only its
-- name
pub data IsWhere (fault : Fault) (name bytes text : List ℕ) : Type 0 where
  placed : (place : Place) → fault.why ≢ TooLong → IsPlaceAfter (take fault.span.start bytes) place
      → text ≡ placed_text name place → IsWhere fault name bytes text
  unplaced : fault.why ≡ TooLong → text ≡ unplaced_text name → IsWhere fault name bytes text

-- a line, and after it what is shown, in whole lines
pub record IsSaidAfter (line text : List ℕ) : Type 0 where
  pub rest : List ℕ
  pub is_shown : IsShown rest
  pub is_whole : EndsLine rest
  pub is_text : text ≡ line ++ codes ": " ++ rest

-- an explanation of the refusal of the file with this name and these bytes: its first line has the
-- place, and then the line of the refusal. No character of the name or the file is shown that a
-- terminal obeys.
pub record IsExplained (fault : Fault) (name bytes text : List ℕ) : Type 0 where
  pub head : List ℕ
  pub is_where : IsWhere fault (shown_name name) bytes head
  pub is_text : IsSaidAfter (head ++ place_text fault) text
