-- The numbers of the refusals.
use Rattle.std.specs.Prelude.{ℕ}
use Rattle.gf_token.specs.declared.fault.Why.{Why}

-- the number of a refusal; no refusal has 17
abbrev pub code_of : Why → ℕ
code_of Why.TooLong = 1
code_of Why.Unterminated = 2
code_of (Why.Expected what) = 3
code_of Why.NotANumber = 4
code_of Why.ZeroDenominator = 5
code_of Why.NumberTooLarge = 6
code_of Why.BadIndex = 7
code_of Why.UnknownPlayer = 8
code_of Why.NotDescribed = 9
code_of Why.Mismatch = 10
code_of Why.NegativeProbability = 11
code_of Why.SumAboveOne = 12
code_of Why.SumBelowOne = 13
code_of Why.SumOverflow = 14
code_of Why.NoEntry = 15
code_of Why.UnknownOutcome = 16
code_of Why.TooManyProfiles = 18
code_of Why.Memory = 19
