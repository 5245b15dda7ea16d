-- Tables that are only compared, and what is kept of their payoffs.
use Rattle.std.specs.Prelude.{◌≡◌, IsTrue, [], length, map, ⊤}
use Rattle.std.specs.List.{flat_map}
use Rattle.gf_nfg.specs.Profiles.{product}
use Rattle.gf_nfg.specs.Table.{IsTable, Table, rows}
use Rattle.gf_nfg.specs.inner.TableParts.{rows_of, table_with}
use Rattle.gf_nfg.specs.inner.PayoffLists.{payoffs_in}
use Rattle.gf_nfg.specs.inner.Told.{Told}
use Rattle.gf_nfg.specs.declared.receive.Version.{Version}
use Rattle.gf_nfg.specs.declared.listed.Body.{Body}
use Rattle.gf_nfg.specs.declared.listed.Listing.{Listing}

-- all payoffs are small, or the others follow; in outcome version none is small
pub record IsListing (l : Listing) (told : Told) : Type 0 where
  pub payoffs_are : payoffs_in l.whole.items l.kept.payoffs.items ≡ told.payoffs
  pub numbers_are : l.kept.numbers.items ≡ told.numbers
  pub none_other : IsTrue l.small → l.kept.payoffs.items ≡ []
  pub none_small : told.version ≡ Version.Outcomes → ¬ (IsTrue l.small) × (l.whole.items ≡ [])

-- the table that is kept
abbrev pub listed : Body → Table
listed (Body.InTurn frame numbers others) = table_with frame
    (rows_of (length frame.players) (product (map length frame.strategies))
    (payoffs_in numbers.items others.items))
listed (Body.Shared t) = t

-- payoffs in turn are those of the table
abbrev pub IsFull : Body → Type 0
IsFull (Body.InTurn frame numbers others) =
    flat_map (λ row. row) (rows (listed (Body.InTurn frame numbers others)))
    ≡ payoffs_in numbers.items others.items
IsFull (Body.Shared t) = ⊤

pub record IsListed (body : Body) : Type 0 where
  pub is_table : IsTable (listed body)
  pub full : IsFull body
