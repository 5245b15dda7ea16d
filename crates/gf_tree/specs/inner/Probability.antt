-- Probabilities and their sums, computed, for the machine of the reader.
use Rattle.std.specs.Prelude.{ℕ, Bool, ◌&&◌, ◌==◌, List, Option, Some, None, Result, Ok, Err}
use Rattle.std.specs.Prelude.{int_lt, pos, if◌then◌else◌}
use Rattle.std.specs.Ordering.{int_eq}
use Rattle.gf_fraction.specs.Ratio.{Ratio}
use Rattle.gf_fraction.specs.declared.fraction.NumberFault.{NumberFault}
use Rattle.gf_fraction.specs.Offered.{number_of, sum_of}
use Rattle.gf_token.specs.NumberWhy.{why_of}
use Rattle.gf_token.specs.declared.fault.Why.{Why}
use Rattle.gf_token.specs.declared.fault.Why.TheVariants.{SumOverflow, NegativeProbability}
use Rattle.gf_token.specs.declared.fault.Why.TheVariants.{SumAboveOne}

abbrev pub is_one : Ratio → Bool
is_one r = int_eq r.num (pos 1) && r.den == 1

abbrev pub same_ratio : Ratio → Ratio → Bool
same_ratio x y = int_eq x.num y.num && x.den == y.den

-- a probability, with the sum through it
pub record Share : Type 0 where
  pub probability : Ratio
  pub sum : Ratio

abbrev pub up_to_one : Ratio → Option Ratio → Result Share Why
up_to_one p None = Err SumOverflow
up_to_one p (Some sum) =
    if int_lt (pos sum.den) sum.num then Err SumAboveOne
    else Ok (record { probability = p; sum = sum })

abbrev pub share_by : Ratio → Result Ratio NumberFault → Result Share Why
share_by sum (Err fault) = Err (why_of fault)
share_by sum (Ok p) =
    if int_lt p.num (pos 0) then Err NegativeProbability else up_to_one p (sum_of sum p)

-- the probability that the bytes are, after probabilities of this sum
abbrev pub share_of : Ratio → List ℕ → Result Share Why
share_of sum bytes = share_by sum (number_of bytes)
