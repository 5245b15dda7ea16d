-- The digits of a game: one for each set at which a player has two or more actions.
use Rattle.std.specs.Prelude.{◌≡◌, ℕ, ◌+◌, ◌/◌, ◌%◌, ◌<◌, ◌^◌, List, [], Some, length, map}
use Rattle.std.specs.Prelude.{get_or}
use Rattle.gf_nfg.specs.Profiles.{product}
use Rattle.gf_tree.specs.Description.{SetKey, InformationSet}
use Rattle.gf_tree.specs.Game.{Game, set_at}
use Rattle.gf_form.specs.inner.rows.Demands.{spans, steps_of}
use Rattle.gf_form.specs.inner.rows.DigitSteps.{in_order, picked, width}
use Rattle.gf_form.specs.inner.rows.ReachedNodes.{is_personal}
use Rattle.gf_form.specs.inner.rows.Shares.{AreDigits}
use Rattle.gf_form.specs.Strategies.{all_choices, choices_by, full_profiles, strategies_at}
use Rattle.gf_form.specs.declared.rows.digits.Digit.{Digit}
use Rattle.gf_form.specs.declared.rows.digits.Digits.{Digits}

-- how many actions there are at each digit
abbrev pub actions_at : List Digit → List ℕ
actions_at digits = map (λ d. d.actions) digits

-- each digit has the step that the faster ones give it
abbrev pub HaveSteps : List Digit → Type 0
HaveSteps digits = map (λ d. d.step) digits ≡ steps_of (actions_at digits)

-- these are the digits of sets with this many actions each, and they have so many values together
pub record AreDigitsOf (counts : List ℕ) (digits : List Digit) (values : ℕ) : Type 0 where
  pub actions_are : actions_at digits ≡ picked counts counts
  pub steps_are : map (λ d. d.step) digits ≡ steps_of (picked counts counts)
  pub values_are : values ≡ width counts
  pub fits : values < 2 ^ 64

-- these are the numbers of the sets of all players, which are made of how many actions there are
pub record AreMadeOf (made : List ℕ → List ℕ) (counts all : List (List ℕ)) : Type 0 where
  pub each : in_order all ≡ made (in_order counts)
  pub as_many : map length all ≡ map length counts

-- how many actions there are at each digit, from the slowest on
abbrev pub digit_actions : Digits → List ℕ
digit_actions d = map (λ digit. digit.actions) d.digits.items

-- Each digit has its step, and all values of all digits are within 64 bits. There are as many
-- choices of an action at each digit as there are profiles, in the same order: the choices with the
-- number of a profile are those of its strategies. What is chosen at a set stands in the number.
pub record HasDigits (g : Game) (d : Digits) : Type 0 where
  pub steps : map (λ digit. digit.step) d.digits.items ≡ steps_of (digit_actions d)
  pub within : product (spans (digit_actions d)) < 2 ^ 64
  pub as_many : product (digit_actions d) ≡ length (full_profiles g)
  pub choices : (number : ℕ) → number < length (full_profiles g)
      → AreDigits g is_personal (choices_by g (map (λ own. own.items) d.steps.items))
      (choices_by g (strategies_at g (get_or (full_profiles g) number []))) (digit_actions d)
      (get_or (all_choices (digit_actions d)) number [])
  pub strides : (number : ℕ) → number < length (full_profiles g) → (key : SetKey)
      (set : InformationSet) → set_at g key ≡ Some set → 0 < key.player
      → choices_by g (strategies_at g (get_or (full_profiles g) number [])) key
      ≡ number / choices_by g (map (λ own. own.items) d.strides.items) key % length set.actions + 1
