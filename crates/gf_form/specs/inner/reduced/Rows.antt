-- Which sets are relevant under each of the strategies that were found, and which of them are marked.
use Rattle.std.specs.Prelude.{◌≡◌, ◌≤◌, ◌<◌, ◌+◌, ◌*◌, ◌==◌, ◌&&◌, ◌||◌, ℕ, Bool, List, false}
use Rattle.std.specs.Prelude.{get_or, length}
use Rattle.std.specs.List.{AllByRecursion, list_any}
use Rattle.gf_tree.specs.KeysInOrder.{player_keys}
use Rattle.gf_tree.specs.Game.{Game}
use Rattle.gf_form.specs.Strategies.{strategies}
use Rattle.gf_form.specs.inner.reduced.Levels.{IsLevel, is_left}
use Rattle.gf_form.specs.inner.reduced.Search.{choices_at, is_relevant_at, steps_to}
use Rattle.gf_form.specs.declared.reduced.digits.OwnDigit.{OwnDigit}
use Rattle.gf_form.specs.declared.reduced.labels.Found.{Found}
use Rattle.gf_form.specs.declared.reduced.labels.Relevance.{Relevance}
use Rattle.gf_form.specs.declared.reduced.level.Level.{Level}

-- the set at a place is left in the level by a strategy's choices at these digits
abbrev pub is_left_by : Game → ℕ → List OwnDigit → Level → ℕ → Found → Bool
is_left_by g player digits level place found =
    is_left place (steps_to digits) (choices_at g player digits found.number) level

-- the level tells which sets are relevant under a strategy, by its choices at these digits
pub record IsTold (g : Game) (player : ℕ) (digits : List OwnDigit) (numbers : List ℕ)
    (level : Level) (found : Found) : Type 0
  where
    pub there : found.place < length numbers
    pub number : get_or numbers found.place 0 ≡ found.number
    pub within : found.number < length (strategies g player)
    pub tells : (place : ℕ) → place < length (player_keys g player)
        → is_relevant_at g player found.number place ≡ is_left_by g player digits level place found

-- under each of these
pub record AreTold (g : Game) (player : ℕ) (digits : List OwnDigit) (numbers : List ℕ)
    (level : Level) (strategies : List Found) : Type 0
  where
    pub levelled : IsLevel (length (player_keys g player)) level
    pub each : AllByRecursion (IsTold g player digits numbers level) strategies

-- there is a flag for each set under the strategy at a place
abbrev pub HasRoom : Relevance → ℕ → Type 0
HasRoom r place = place * r.sets + r.sets ≤ length r.flags.items

-- this is a strategy of the player, and there are flags for it
pub record IsFound (g : Game) (player : ℕ) (r : Relevance) (found : Found) : Type 0 where
  pub within : found.number < length (strategies g player)
  pub room : HasRoom r found.place

-- so are these
pub record AreFound (g : Game) (player : ℕ) (r : Relevance) (found : List Found) : Type 0 where
  pub each : AllByRecursion (IsFound g player r) found

-- whether the set at the second place is marked under the strategy at the first one
abbrev pub flag_at : Relevance → ℕ → ℕ → Bool
flag_at r at place = get_or r.flags.items (at * r.sets + place) false

-- sets that pass the test under some of these strategies are marked there in addition
pub record Marked (test : ℕ → Found → Bool) (found : List Found) (before after : Relevance) : Type 0
  where
    pub sets : after.sets ≡ before.sets
    pub room : length after.flags.items ≡ length before.flags.items
    pub flags : (at place : ℕ) → place < before.sets → flag_at after at place
        ≡ (flag_at before at place || list_any (λ f. f.place == at && test place f) found)

-- the flags of the strategy at a place tell which sets are relevant under it
pub record HasRow (g : Game) (player : ℕ) (numbers : List ℕ) (r : Relevance) (at : ℕ) : Type 0
  where
    pub counted : r.sets ≡ length (player_keys g player)
    pub room : HasRoom r at
    pub is : (place : ℕ) → place < r.sets
        → flag_at r at place ≡ is_relevant_at g player (get_or numbers at 0) place
