-- Why a token in the place of a number is refused.
use Rattle.gf_fraction.specs.declared.fraction.NumberFault.{NumberFault}
use Rattle.gf_token.specs.declared.fault.Why.{Why}

-- the refusal of a text that spells no number
abbrev pub why_of : NumberFault → Why
why_of NumberFault.NotANumber = Why.NotANumber
why_of NumberFault.ZeroDenominator = Why.ZeroDenominator
why_of NumberFault.TooLarge = Why.NumberTooLarge
