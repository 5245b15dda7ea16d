-- The pieces of a canonical text, for the functions that append them.
use Rattle.std.specs.Prelude.{◌≡◌, ℕ, ◌+◌, ◌-◌, ◌*◌, ◌<◌, ◌≤◌, List, [], ◌∷◌, ◌++◌, map, length}
use Rattle.std.specs.Prelude.{codes, drop, get_or, if◌then◌else◌, nat_lt}
use Rattle.std.specs.List.{flat_map}
use Rattle.gf_fraction.specs.Ratio.{Ratio}
use Rattle.gf_fraction.specs.NumberText.{number_text}
use Rattle.gf_token.specs.NameBy.{name_by}
use Rattle.gf_token.specs.declared.names.Names.{Names}
use Rattle.gf_nfg.specs.inner.TableParts.{Frame}
use Rattle.gf_nfg.specs.TableText.{lines_text, list_text, quoted, spaced}

-- a frame with its names or without
abbrev pub frame_by : Names → Frame → Frame
frame_by names n = record n {
  title = name_by names n.title;
  comment = name_by names n.comment;
}

-- the payoffs at one profile
abbrev pub row_text : List Ratio → List ℕ
row_text row = spaced (map number_text row)

-- and their line
abbrev pub line_text : List Ratio → List ℕ
line_text row = row_text row ++ 10 ∷ []

-- A text ends at this place, or with the line of these payoffs, which begins at this place and has at
-- most 81 bytes for each and one more.
abbrev pub EndsWithLine : List Ratio → ℕ → List ℕ → Type 0
EndsWithLine row start text = (start ≤ length text) × (start < length text
    → (drop start text ≡ line_text row) × (length text ≤ start + (81 * length row + 1)))

-- the lines of the rows still to come
abbrev pub lines_rest : List (List Ratio) → ℕ → List ℕ
lines_rest rs at = lines_text (map row_text (drop at rs))

-- Payoffs in lines of so many, of which the first one lacks so many. A space or a line feed stands
-- after each.
abbrev pub payoffs_text : ℕ → ℕ → List Ratio → List ℕ
payoffs_text width left [] = []
payoffs_text width left (payoff ∷ payoffs) = number_text payoff
    ++ (if nat_lt 1 left then 32 ∷ payoffs_text width (left - 1) payoffs
    else 10 ∷ payoffs_text width width payoffs)

-- the format, the title and the players
abbrev pub first_line : Frame → List ℕ
first_line frame = spaced (codes "NFG" ∷ codes "1" ∷ codes "R" ∷ quoted frame.title
    ∷ list_text (map quoted frame.players) ∷ [])

-- what stands before the strategies
abbrev pub front_text : Frame → List ℕ
front_text frame = first_line frame ++ 10 ∷ codes "{ "

-- what stands between the strategies and the payoffs
abbrev pub ending_text : Frame → List ℕ
ending_text frame = codes "}" ++ 10 ∷ (quoted frame.comment ++ 10 ∷ 10 ∷ [])

-- the lines before the payoffs
abbrev pub heading_text : Frame → List ℕ
heading_text frame = lines_text
    (first_line frame
    ∷ list_text (map (λ own. list_text (map quoted own)) frame.strategies)
    ∷ quoted frame.comment
    ∷ []
    ∷ [])

-- the lines with these numbers, from 0, one after another
abbrev pub lines_with : List (List ℕ) → List ℕ → List ℕ
lines_with lines numbers = flat_map (λ number. get_or lines number []) numbers
