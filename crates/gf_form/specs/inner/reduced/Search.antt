-- A search for the first strategies of a player, digit by digit.
use Rattle.std.specs.Prelude.{◌≡◌, ◌≤◌, ◌<◌, ◌+◌, ◌*◌, ◌%◌, ◌^◌, ◌==◌, ◌&&◌, ◌||◌, ℕ, Bool, false}
use Rattle.std.specs.Prelude.{List, [], drop, get_or, length, map, nat_lt, take}
use Rattle.std.specs.List.{AllByRecursion}
use Rattle.gf_nfg.specs.Profiles.{product}
use Rattle.std.specs.Cmp.Lexicographic.{pointwise}
use Rattle.gf_tree.specs.FiniteMap.{first_uses}
use Rattle.gf_tree.specs.Game.{Game}
use Rattle.gf_tree.specs.IsGame.{IsGame}
use Rattle.gf_form.specs.Reduced.{reduced, same_choice}
use Rattle.gf_form.specs.Strategies.{action_counts, all_choices, strategies}
use Rattle.gf_form.specs.inner.reduced.Levels.{IsLevel, is_left}
use Rattle.gf_form.specs.inner.reduced.OwnDigits.{digits_from}
use Rattle.gf_form.specs.inner.reduced.Shown.{relevant_sets}
use Rattle.gf_form.specs.inner.reduced.Visits.{is_met}
use Rattle.gf_form.specs.declared.reduced.digits.OwnDigit.{OwnDigit}
use Rattle.gf_form.specs.declared.reduced.first.Player.{Player}
use Rattle.gf_form.specs.declared.reduced.level.Level.{Level}
use Rattle.gf_form.specs.declared.reduced.visits.Visit.{Visit}

-- ---- digits

abbrev pub digit_at : List OwnDigit → ℕ → OwnDigit
digit_at digits k = get_or digits k (record { place = 0; step = 0; actions = 0 })

-- how many actions there are at each digit
abbrev pub actions_of : List OwnDigit → List ℕ
actions_of digits = map (λ d. d.actions) digits

-- what one more at each digit adds to demands
abbrev pub steps_to : List OwnDigit → List ℕ
steps_to digits = map (λ d. d.step) digits

-- one more action than there are still fits
pub record IsFine (d : OwnDigit) : Type 0 where
  pub step : 0 < d.step
  pub actions : 0 < d.actions
  pub fits : d.actions * d.step + d.step < 2 ^ 64

-- those of these visits that are to sets with a digit, each to the place of the digit
abbrev pub AreOwn : List OwnDigit → List Visit → List Visit → Type 0
AreOwn digits visits own = (k : ℕ) (steps choices : List ℕ) → k < length digits
    → is_met k steps choices own ≡ is_met (digit_at digits k).place steps choices visits

-- ---- strategies by their numbers, from 0

abbrev pub numbered : Game → ℕ → ℕ → List ℕ
numbered g player number = get_or (strategies g player) number []

-- the set at a place, from 0, is relevant under the strategy with a number
abbrev pub is_relevant_at : Game → ℕ → ℕ → ℕ → Bool
is_relevant_at g player number place =
    get_or (relevant_sets g player (numbered g player number)) place false

-- what the strategy with a number chooses at these digits
abbrev pub choices_at : Game → ℕ → List OwnDigit → ℕ → List ℕ
choices_at g player digits number =
    map (λ d. get_or (numbered g player number) d.place 0) digits

-- what each strategy chooses at these digits is told by its number, modulo their choices
pub record ChooseInTurn (g : Game) (player : ℕ) (digits : List OwnDigit) (count : ℕ) : Type 0 where
  pub fine : AllByRecursion IsFine digits
  pub counted : count ≡ product (actions_of digits)
  pub chosen : (n : ℕ) → n < length (strategies g player) → choices_at g player digits n
      ≡ get_or (all_choices (actions_of digits)) (n % count) []

-- ---- a player

-- what is counted of a player is so in the game, and the digits are those of their sets
pub record IsPlayer (p : Player) : Type 0 where
  pub is_game : IsGame p.game.now
  pub counts : p.counts.now ≡ action_counts p.game.now p.number
  pub whole : p.whole ≡ product (action_counts p.game.now p.number)
  pub digits : p.digits.items ≡ digits_from 0 (action_counts p.game.now p.number)

-- ---- first strategies

-- The set of the digit at a place is relevant, or the digit is one of the first ones, as many as
-- the depth says, and has the first action.
abbrev pub is_settled : Game → ℕ → List OwnDigit → ℕ → ℕ → ℕ → Bool
is_settled g player all depth number j =
    is_relevant_at g player number (digit_at all j).place
    || (nat_lt j depth && get_or (numbered g player number) (digit_at all j).place 0 == 1)

-- As many of a player's digits are chosen as the depth says, and these are left. The strategies
-- with numbers from this one on, as many as the count says, have all choices there in turn, and the
-- level tells which digits are settled under each of them.
pub record IsSearched (p : Player) (digits : List OwnDigit) (level : Level)
    (depth number count : ℕ) : Type 0
  where
    pub rest : drop depth p.digits.items ≡ digits
    pub deep : depth ≤ length p.digits.items
    pub turn : ChooseInTurn p.game.now p.number digits count
    pub row : ℕ
    pub start : number ≡ row * count
    pub end : number + count ≤ length (strategies p.game.now p.number)
    pub few : length (strategies p.game.now p.number) < 2 ^ 32
    pub levelled : IsLevel (length p.digits.items) level
    pub tells : (n j : ℕ) → number ≤ n → n < number + count → j < length p.digits.items
        → is_settled p.game.now p.number p.digits.items depth n j
        ≡ is_left j (steps_to digits) (choices_at p.game.now p.number digits n) level

-- the strategy with a number has the first action at each set that is not relevant under it: of
-- those that reduce to the same one, it is the first
abbrev pub IsFirst : Game → ℕ → ℕ → Type 0
IsFirst g player number = (place : ℕ) → place < length (action_counts g player)
    → is_relevant_at g player number place ≡ false → get_or (numbered g player number) place 0 ≡ 1

-- all strategies with these numbers are first ones
abbrev pub AreFirstBelow : Game → ℕ → ℕ → ℕ → Type 0
AreFirstBelow g player number count =
    (n : ℕ) → number ≤ n → n < number + count → IsFirst g player n

-- the first strategies that reduce to what those before a number do, in turn
pub record AreFoundTo (g : Game) (player : ℕ) (numbers : List ℕ) (number : ℕ) : Type 0 where
  pub are : map (λ n. reduced g player (numbered g player n)) numbers
      ≡ first_uses (pointwise same_choice)
      (map (reduced g player) (take number (strategies g player)))
  pub within : AllByRecursion (λ n. n < number) numbers
