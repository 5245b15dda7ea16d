-- What a receiver was told of a table.
use Rattle.std.specs.Prelude.{◌≡◌, ℕ, List, []}
use Rattle.gf_fraction.specs.Ratio.{Ratio}
use Rattle.gf_nfg.specs.Limit.{IsWithinLimit}
use Rattle.gf_nfg.specs.inner.Machine.{Content}
use Rattle.gf_nfg.specs.inner.Meaning.{IsComplete, table_of}
use Rattle.gf_nfg.specs.inner.ReaderState.{content_with}
use Rattle.gf_nfg.specs.TableText.{SpellsTable}
use Rattle.gf_nfg.specs.inner.Told.{Told}
use Rattle.gf_nfg.specs.declared.heading.Heading.{Heading}
use Rattle.gf_nfg.specs.declared.receive.Version.{Version}

-- these parts mean a table within the limit, which the bytes spell
pub record MeansTable (bytes : List ℕ) (c : Content) : Type 0 where
  pub spelled : SpellsTable bytes (table_of c)
  pub complete : IsComplete c
  pub within : IsWithinLimit (table_of c)

-- It was told this heading and a body, and they mean a table that the bytes spell. In payoff
-- version no numbers were told.
pub record HasToldTable {T : Type 0} (holds : T → Told → Type 0) (bytes : List ℕ)
    (heading : Heading) (to : T) : Type 0 where
  pub version : Version
  pub payoffs : List Ratio
  pub numbers : List ℕ
  pub means : MeansTable bytes (content_with heading payoffs numbers)
  pub unnumbered : version ≡ Version.Payoffs → numbers ≡ []
  pub holding : holds to (record {
    version = version;
    heading = heading;
    payoffs = payoffs;
    numbers = numbers;
  })
