-- How the parts of a table are kept.
use Rattle.std.specs.Prelude.{◌≡◌, ℕ, zero, suc, pos, ◌-◌, ◌*◌, ◌^◌, ◌<◌, ◌≤◌, List, [], ◌++◌, ◌∷◌}
use Rattle.std.specs.Prelude.{take, drop, get_or, length, slice_get, replicate, unwrap_or, map}
use Rattle.std.specs.List.{AllByRecursion, flat_map}
use Rattle.gf_fraction.specs.Ratio.{IsFraction, Ratio, whole}
use Rattle.gf_nfg.specs.ProfilePlaces.{IsProfile, place}
use Rattle.gf_nfg.specs.Profiles.{product, profiles}
use Rattle.gf_nfg.specs.Limit.{IsWithinLimit, profile_limit}
use Rattle.gf_nfg.specs.Spellable.{AreSpellings, IsSpellable}
use Rattle.gf_nfg.specs.Table.{Entry, Table, IsTable, rows}

-- a list cut at these ends, from this place on
abbrev pub pieces : {A : Type 0} → ℕ → List ℕ → List A → List (List A)
pieces from [] items = []
pieces from (end ∷ ends) items = take (end - from) (drop from items) ∷ pieces end ends items

-- where the piece with this number, from 0, begins
abbrev pub start_of : ℕ → List ℕ → ℕ → ℕ
start_of from ends zero = from
start_of from [] (suc n) = from
start_of from (end ∷ ends) (suc n) = start_of end ends n

-- the ends rise from this place, and the last of them is the whole
abbrev pub RisesTo : ℕ → ℕ → List ℕ → Type 0
RisesTo whole from [] = from ≡ whole
RisesTo whole from (end ∷ ends) = (from ≤ end) × RisesTo whole end ends

-- bytes that are cut into labels at these ends
pub record IsCut (ends : List ℕ) (bytes : List ℕ) : Type 0 where
  pub rises : RisesTo (length bytes) 0 ends
  pub spelled : AreSpellings (pieces 0 ends bytes)

-- each after a dash
abbrev pub dashed : List (List ℕ) → List ℕ
dashed [] = []
dashed (label ∷ labels) = 45 ∷ (label ++ dashed labels)

-- this many items, then this many of the others, and so on
abbrev pub groups : {A : Type 0} → List ℕ → List A → List (List A)
groups [] items = []
groups (size ∷ sizes) items = take size items ∷ groups sizes (drop size items)

-- a table without its payoffs
pub record Frame : Type 0 where
  pub title : List ℕ
  pub comment : List ℕ
  pub players : List (List ℕ)
  pub strategies : List (List (List ℕ))

-- the strategies of the player at this place
abbrev pub own_of : Frame → ℕ → List (List ℕ)
own_of frame at = get_or frame.strategies at []

-- with a list of the title and the comment
abbrev pub frame_of : List (List ℕ) → List (List ℕ) → List (List (List ℕ)) → Frame
frame_of title_and_comment players strategies = record {
  title = unwrap_or (slice_get title_and_comment 0) [];
  comment = unwrap_or (slice_get title_and_comment 1) [];
  players = players;
  strategies = strategies;
}

-- a title and a comment, and a list of strategies for each player
abbrev pub AreFrameParts : List (List ℕ) → List (List ℕ) → List (List (List ℕ)) → Type 0
AreFrameParts title_and_comment players strategies =
    (length title_and_comment ≡ 2) × (length strategies ≡ length players)

-- ---- rows

-- each profile with its row
abbrev pub entries_of : List (List ℕ) → List (List Ratio) → List Entry
entries_of [] rows = []
entries_of (profile ∷ profiles) [] = []
entries_of (profile ∷ profiles) (row ∷ rows) =
    record { profile = profile; payoffs = row } ∷ entries_of profiles rows

-- the table with this frame, and these rows at the profiles in turn
abbrev pub table_with : Frame → List (List Ratio) → Table
table_with frame rows = record {
  title = frame.title;
  comment = frame.comment;
  players = frame.players;
  strategies = frame.strategies;
  entries = entries_of (profiles (map length frame.strategies)) rows;
}

-- nothing for each player
abbrev pub no_pay : ℕ → List Ratio
no_pay players = replicate players (whole (pos 0))

-- the row with this number, from 1, among rows one after another; at 0 each player is paid zero
abbrev pub row_of : ℕ → List Ratio → ℕ → List Ratio
row_of players payoffs zero = no_pay players
row_of players payoffs (suc k) = take players (drop (k * players) payoffs)

-- this many lists of this length, one after another
abbrev pub rows_of : {A : Type 0} → ℕ → ℕ → List A → List (List A)
rows_of size zero items = []
rows_of size (suc n) items = take size items ∷ rows_of size n (drop size items)

-- the rows of this many profiles, which have these numbers; without numbers they come in turn
abbrev pub kept_rows : ℕ → ℕ → List Ratio → List ℕ → List (List Ratio)
kept_rows players count payoffs [] = rows_of players count payoffs
kept_rows players count payoffs (k ∷ numbers) = map (row_of players payoffs) (k ∷ numbers)

-- there is a row for each profile, in turn or with its number
abbrev pub HasRows : ℕ → ℕ → List Ratio → List ℕ → Type 0
HasRows players count payoffs [] = length payoffs ≡ count * players
HasRows players count payoffs (k ∷ numbers) =
    (outcomes : ℕ) × (length payoffs ≡ outcomes * players)
    × (length (k ∷ numbers) ≡ count) × AllByRecursion (λ n. n ≤ outcomes) (k ∷ numbers)

-- so many rows, with no payoffs after them
pub record AreFull (players count : ℕ) (payoffs : List Ratio) : Type 0 where
  pub full : length payoffs ≡ count * players
  pub few : count < 2 ^ 62

-- the rows with these numbers, or, without numbers, all after the first one
abbrev pub chosen_rows : List (List Ratio) → List ℕ → List (List Ratio)
chosen_rows rows [] = drop 1 rows
chosen_rows rows (k ∷ numbers) = map (λ n. get_or rows n []) (k ∷ numbers)

-- they are so many, and there is a row with each number
pub record AreNumbered (count : ℕ) (rows : List (List Ratio)) (numbers : List ℕ) : Type 0 where
  pub counted : length (chosen_rows rows numbers) ≡ count
  pub below : AllByRecursion (λ n. n < length rows) numbers

-- these have such numbers among rows
pub record AreShared (all rows : List (List Ratio)) (numbers : List ℕ) : Type 0 where
  pub rows_are : all ≡ map (λ n. get_or rows n []) numbers
  pub below : AllByRecursion (λ n. n < length rows) numbers

-- these are the frame and the rows of a table that a file within the limit of profiles can hold
pub record IsHeld (frame : Frame) (rs : List (List Ratio)) : Type 0 where
  pub is_table : IsTable (table_with frame rs)
  pub spellable : IsSpellable (table_with frame rs)
  pub within : IsWithinLimit (table_with frame rs)
  pub rows_are : rows (table_with frame rs) ≡ rs

-- a frame, and the payoffs of a table with this frame in the order of a file
pub record AreParts (frame : Frame) (payoffs : List Ratio) : Type 0 where
  pub one_list_each : length frame.strategies ≡ length frame.players
  pub some_strategy : AllByRecursion (λ own. 0 < length own) frame.strategies
  pub within : product (map length frame.strategies) ≤ profile_limit
  pub one_row_each : length payoffs
      ≡ product (map length frame.strategies) * length frame.players
  pub fractions : AllByRecursion IsFraction payoffs
  pub spelled : AreSpellings (frame.title ∷ frame.comment
      ∷ (frame.players ++ flat_map (λ own. own) frame.strategies))

-- ---- profiles

-- a profile of players with this many strategies, and its place
pub record IsPlaced (counts profile : List ℕ) (k : ℕ) : Type 0 where
  pub is_profile : IsProfile counts profile
  pub place_is : k ≡ place counts profile
