-- The text that is written for a ratio.
use Rattle.std.specs.Prelude.{◌==◌, ◌++◌, ℕ, List, codes, decimal, if◌then◌else◌}
use Rattle.std.specs.Fmt.{signed_decimal}
use Rattle.gf_fraction.specs.Ratio.{Ratio}

-- `n`, or `n/d` if the denominator is not 1, in decimal digits
unfoldable pub number_text : Ratio → List ℕ
number_text r =
    if r.den == 1
    then signed_decimal r.num
    else signed_decimal r.num ++ codes "/" ++ decimal r.den
