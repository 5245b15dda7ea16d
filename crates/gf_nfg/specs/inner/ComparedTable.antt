-- What is found out of a file that is told, beside the payoffs of a table.
use Rattle.std.specs.Prelude.{◌≡◌, ◌↔◌, ◌++◌, IsTrue, List}
use Rattle.gf_fraction.specs.Ratio.{Ratio}
use Rattle.gf_nfg.specs.inner.Told.{Told}
use Rattle.gf_nfg.specs.declared.comparison.Comparison.{Comparison}
use Rattle.gf_nfg.specs.declared.receive.Version.{Version}

-- With any payoffs after those that were told they are the table's exactly when no difference was
-- found, and these are what is left of the table's; or the payoffs are kept.
abbrev pub ComparesBody : Version → List Ratio → Comparison → Told → Type 0
ComparesBody Version.Payoffs all c told = (rest : List Ratio)
    → (all ≡ told.payoffs ++ rest) ↔ (IsTrue c.same × (c.left ≡ rest))
ComparesBody Version.Outcomes all c told = c.kept.payoffs.items ≡ told.payoffs

pub record IsCompared (all : List Ratio) (c : Comparison) (told : Told) : Type 0 where
  pub version_is : c.version ≡ told.version
  pub compares : ComparesBody told.version all c told
  pub numbers_are : c.kept.numbers.items ≡ told.numbers
