-- Why a text spells no number (this project's profile).
use Rattle.std.specs.Prelude.{◌≡◌, ℕ, ◌<◌, Bool, List, Result, MatchResult}
use Rattle.gf_fraction.specs.Ratio.{Ratio}
use Rattle.gf_fraction.specs.NumberSpelling.{Reading, SpellsReading, IsBounded, IsNumber, den_of}
use Rattle.gf_fraction.specs.declared.fraction.NumberFault.{NumberFault}
use Rattle.gf_fraction.specs.declared.fraction.NumberFault.TheVariants.{NotANumber}
use Rattle.gf_fraction.specs.declared.fraction.NumberFault.TheVariants.{ZeroDenominator, TooLarge}

-- the text has one of the shapes, and a zero denominator
pub record HasZeroDenominator (text : List ℕ) : Type 0 where
  pub negative : Bool
  pub reading : Reading
  pub spelled : SpellsReading text negative reading
  pub zero : den_of reading ≡ 0

-- the text has one of the shapes, and no zero denominator, but breaks a bound
pub record IsTooLarge (text : List ℕ) : Type 0 where
  pub negative : Bool
  pub reading : Reading
  pub spelled : SpellsReading text negative reading
  pub den_above_zero : 0 < den_of reading
  pub unbounded : ¬ (IsBounded reading)

-- why a text is not a number: it has none of the shapes; otherwise it has a zero denominator;
-- otherwise it breaks a bound
abbrev pub HasNumberFault : List ℕ → NumberFault → Type 0
HasNumberFault text NotANumber =
    (negative : Bool) (reading : Reading) → ¬ (SpellsReading text negative reading)
HasNumberFault text ZeroDenominator = HasZeroDenominator text
HasNumberFault text TooLarge = IsTooLarge text

-- what reading the text answers: its value, or why it is not a number
abbrev pub Reads : List ℕ → Result Ratio NumberFault → Type 0
Reads text answer = MatchResult answer (λ r. IsNumber text r) (λ fault. HasNumberFault text fault)
