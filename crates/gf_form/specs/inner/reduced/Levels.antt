-- What is left of a player's visits after choices at the slower digits.
use Rattle.std.specs.Prelude.{◌&&◌, ◌||◌, ◌==◌, ◌≡◌, ◌≤◌, ◌<◌, ◌-◌, ◌+◌, ◌∷◌, [], ⊤, ℕ, Bool, List}
use Rattle.std.specs.Prelude.{false, get_or, length}
use Rattle.std.specs.List.{AllByRecursion, list_any}
use Rattle.std.specs.List.Sorted.{IsNonDecreasingBy}
use Rattle.gf_form.specs.inner.reduced.Visits.{is_met, is_met_on}
use Rattle.gf_form.specs.declared.reduced.level.Level.{Level}
use Rattle.gf_form.specs.declared.reduced.level.Parts.{Parts}
use Rattle.gf_form.specs.declared.reduced.visits.Visit.{Visit}

-- the set at this place is known to be met, or is by these choices at the digits that are left
abbrev pub is_left : ℕ → List ℕ → List ℕ → Level → Bool
is_left place steps choices l =
    get_or l.known.items place false || is_met place steps choices l.visits.items

-- it is said of so many sets whether they are known, and visits stand in order of their demands
pub record IsLevel (sets : ℕ) (l : Level) : Type 0 where
  pub counted : length l.known.items ≡ sets
  pub ordered : IsNonDecreasingBy (λ v. v.demands) l.visits.items

abbrev pub ArePositive : List ℕ → Type 0
ArePositive steps = AllByRecursion (λ step. 0 < step) steps

-- so many of these visits, the first ones, demand less than a number
pub record HaveBelow (visits : List Visit) (number count : ℕ) : Type 0 where
  pub bound : count ≤ length visits
  pub below : (k : ℕ) (d : Visit) → k < count → (get_or visits k d).demands < number
  pub above : (k : ℕ) (d : Visit) → count ≤ k → k < length visits
      → number ≤ (get_or visits k d).demands

-- what is left of a visit if so much of its demands is met
abbrev pub left_of : ℕ → Visit → Visit
left_of lowest v = record { demands = v.demands - lowest; set = v.set }

-- some visit that is left in the parts passes the test
abbrev pub is_in : (Visit → Bool) → Parts → Bool
is_in test parts =
    list_any test parts.free.now || list_any (λ v. test (left_of parts.lowest v)) parts.own.now

abbrev pub AreTaken : Parts → Type 0
AreTaken parts = (test : Visit → Bool) → is_in test parts ≡ false

-- these visits are in order of demands, and none of them demands less than a number
abbrev pub AreOrderedFrom : ℕ → List Visit → Type 0
AreOrderedFrom n [] = ⊤
AreOrderedFrom n (v ∷ visits) = (n ≤ v.demands) × AreOrderedFrom v.demands visits

-- both parts are in order of demands, and what is left of their visits demands this number at least
pub record AreFrom (n : ℕ) (parts : Parts) : Type 0 where
  pub free : AreOrderedFrom n parts.free.now
  pub own : AreOrderedFrom (parts.lowest + n) parts.own.now

abbrev pub AreOrdered : Parts → Type 0
AreOrdered parts = (n : ℕ) × AreFrom n parts

-- this visit is taken from the parts, and none that is left demands less
pub record Takes (v : Visit) (old new : Parts) : Type 0 where
  pub taken : (test : Visit → Bool) → is_in test old ≡ (test v || is_in test new)
  pub ordered : (n : ℕ) → AreFrom n old → (n ≤ v.demands) × AreFrom v.demands new
  pub fewer : length new.free.now + length new.own.now < length old.free.now + length old.own.now

-- the parts are what is left of these visits if this action is chosen
pub record AreParts (step action : ℕ) (visits : List Visit) (parts : Parts) : Type 0 where
  pub left : (place : ℕ) (steps choices : List ℕ) → is_in (is_met_on place steps choices) parts
      ≡ is_met place (step ∷ steps) (action ∷ choices) visits
  pub ordered : AreFrom 0 parts

-- these visits are in order of demands, and none of them demands more than a number
pub record AreUpTo (n : ℕ) (visits : List Visit) : Type 0 where
  pub ordered : IsNonDecreasingBy (λ v. v.demands) visits
  pub within : (d : Visit) → 0 < length visits → (get_or visits (length visits - 1) d).demands ≤ n

-- the second level has this visit in addition
pub record Adds (v : Visit) (before after : Level) : Type 0 where
  pub counted : length after.known.items ≡ length before.known.items
  pub adds : (place : ℕ) (steps choices : List ℕ) → place < length before.known.items
      → ArePositive steps → is_left place steps choices after
      ≡ (is_left place steps choices before || is_met_on place steps choices v)
  pub ordered : (n : ℕ) → n ≤ v.demands → AreUpTo n before.visits.items
      → AreUpTo v.demands after.visits.items

-- the second level is what is left of the first if this action is chosen
abbrev pub IsChosen : ℕ → ℕ → Level → Level → Type 0
IsChosen step action from left = (place : ℕ) (steps choices : List ℕ)
    → place < length from.known.items → ArePositive steps → is_left place steps choices left
    ≡ is_left place (step ∷ steps) (action ∷ choices) from

-- the same, but the set at one place need not be met if the action is the first one
abbrev pub IsChosenAt : ℕ → ℕ → ℕ → Level → Level → Type 0
IsChosenAt spared step action from left = (place : ℕ) (steps choices : List ℕ)
    → place < length from.known.items → ArePositive steps → is_left place steps choices left
    ≡ (is_left place (step ∷ steps) (action ∷ choices) from || (action == 1 && place == spared))

-- the set at this place is known to be met, or there is a visit to it
abbrev pub can_be_met : ℕ → Level → Bool
can_be_met place l = get_or l.known.items place false
    || list_any (λ v. v.set == place) l.visits.items

-- the flags tell whether each set can be met
pub record Marks (l : Level) (met : List Bool) : Type 0 where
  pub counted : length met ≡ length l.known.items
  pub marked : (place : ℕ) → place < length l.known.items
      → get_or met place false ≡ can_be_met place l
