-- The rows of payoffs that are kept.
use Rattle.std.specs.Prelude.{List, map}
use Rattle.gf_fraction.specs.Ratio.{Ratio}
use Rattle.gf_form.specs.declared.values.payoffs.Payoffs.{Payoffs}

abbrev pub rows_of : Payoffs → List (List Ratio)
rows_of p = map (λ row. row.now) p.rows.items
