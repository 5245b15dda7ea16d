-- Fronts of files that are refused. WorkedTrees has whole files.
use Rattle.std.specs.Prelude.{ℕ, List, ◌++◌, codes}
use Rattle.gf_token.specs.declared.fault.Span.{Span}

abbrev pub span_of : ℕ → ℕ → Span
span_of start end = record { start = start; end = end }

-- ---- probabilities

-- a file of no players, up to the first probability of a new set
abbrev pub lottery : List ℕ → List ℕ
lottery more = codes "EFG 2 R \"c\" { } c \"\" 1 \"n\" { \"a\" " ++ more

-- three thirds, to six places, add up to 999,999/1,000,000
abbrev pub below_one_front : List ℕ
below_one_front = lottery (codes "0.333333 \"b\" 0.333333 \"d\" 0.333333 } 0")

abbrev pub no_number_front : List ℕ
no_number_front = lottery (codes "x } 0")

-- ---- indices and empty lists

abbrev pub set_zero_front : List ℕ
set_zero_front = codes "EFG 2 R \"m\" { \"A\" } p \"\" 1 0 \"i\" { \"L\" } 0 t \"\" 0"

abbrev pub no_action_front : List ℕ
no_action_front = codes "EFG 2 R \"m\" { \"A\" } p \"\" 1 1 \"i\" { } 0"

abbrev pub no_lottery_front : List ℕ
no_lottery_front = codes "EFG 2 R \"m\" { \"A\" } c \"\" 1 \"n\" { } 0"

-- ---- outcomes, and repeated probabilities

abbrev pub outcome_plus_one_front : List ℕ
outcome_plus_one_front = codes "EFG 2 R \"m\" { \"A\" } t \"\" +1"

abbrev pub no_denominator_front : List ℕ
no_denominator_front = codes "EFG 2 R \"m\" { \"A\" } t \"\" 1 \"x\" { 1/0 }"

-- an outcome that pays 5, up to its number when it is used again
abbrev pub paid_again : List ℕ → List ℕ
paid_again more =
    codes
    "EFG 2 R \"m\" { \"A\" } p \"\" 1 1 \"i\" { \"L\" \"R\" } 0 t \"\" 1 \"x\" { 5 } t \"\" 1 "
    ++ more

abbrev pub other_name_front : List ℕ
other_name_front = paid_again (codes "\"y\" { 5 }")

abbrev pub other_payoff_front : List ℕ
other_payoff_front = paid_again (codes "\"x\" { 6 }")

-- a probability of 0 that is 1/2 when it is repeated
abbrev pub other_probability_front : List ℕ
other_probability_front =
    codes "EFG 2 R \"m\" { } c \"\" 1 \"n\" { \"h\" 1 \"t\" 0 } 0 t \"\" 0 "
    ++ codes "c \"\" 1 \"n\" { \"h\" 1 \"t\" 1/2 } 0"

-- ---- the heading

abbrev pub no_version_front : List ℕ
no_version_front = codes "EFG x"
