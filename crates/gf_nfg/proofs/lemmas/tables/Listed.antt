-- Tables that are only compared: what is kept of their payoffs, and that it means the table; and a
-- file that was told whole is the same as a table exactly when no difference was found.
use Rattle.gf_nfg.proofs.Common
use Common.{IsWithinLimit, content_with, HasToldTable, SpellsTable, table_with, IsComplete, IsTable}
use Common.{content_in, content_of, append-nil, length-map, IsCompared, MeansTable, slice_get, List}
use Common.{SameTable, mul_comm, frame_in, table_of, named_by, frame_by, Outcomes, Content, Payoffs}
use Common.{Heading, length, IsTrue, arith, Ratio, Table, Frame, Names, ◌++◌, rows, Some, Bool, ◌≡◌}
use Common.{true, ◌==◌, drop, ◌+◌, ◌∷◌, sym, ◌∙◌, ◌↔◌, [], ap, ℕ}
use Rattle.gf_nfg.specs.inner.ListedTable.{IsListed, IsListing, listed}
use Rattle.gf_nfg.specs.declared.listed.Body.{Body}
use Rattle.gf_nfg.specs.declared.listed.Listing.{Listing}
use Rattle.gf_nfg.specs.declared.comparison.Comparison.{Comparison}
use Rattle.gf_nfg.proofs.lemmas.tables.Lists.{joined, rows_again, rows_in_turn}
use Rattle.gf_nfg.proofs.lemmas.tables.Meaning.{is_table, profiles_counted, rows-table_of}
use Rattle.gf_nfg.proofs.lemmas.tables.Rows.{entries_again, entries_counted}
use Rattle.gf_nfg.proofs.lemmas.tables.Same.{frame_in as own_frame, same_is_equal}
use Rattle.gf_nfg.proofs.lemmas.texts.Pieces.{drop_from}

-- ---- the table that was told

pub lacking : (size count : ℕ) (empty : Bool) → empty ≡ (size == 0) → empty ≡ true
    → size ≡ count → count ≡ 0
lacking size count empty is none same = grind arith

payoffs_told : (c : Content) → IsComplete c → c.choices ≡ []
    → joined (rows (table_of c)) ≡ c.payoffs
payoffs_told c h none = grind (arith, rows-table_of, rows_in_turn, mul_comm)

module _ (bytes : List ℕ) (heading : Heading) (l : Listing)
    (h : HasToldTable IsListing bytes heading l) where
  abbrev told : Content
  told = content_with heading h.payoffs h.numbers

  abbrev body : Frame → Body
  body frame = Body.InTurn frame l.whole l.kept.payoffs

  in_turn_told : (frame : Frame) → frame ≡ frame_in (content_in heading)
      → l.kept.numbers.items ≡ [] → listed (body frame) ≡ table_of told
  in_turn_told frame is none = grind (arith, profiles_counted told h.means.complete)

  pub in_turn_listed : (frame : Frame) → frame ≡ frame_in (content_in heading)
      → l.kept.numbers.items ≡ [] → IsListed (body frame)
  in_turn_listed frame is none =
      let told_is = payoffs_told told h.means.complete (sym h.holding.numbers_are ∙ none) in
      grind (arith, is_table told h.means.complete, in_turn_told frame is none)

  pub in_turn_means : (frame : Frame) → frame ≡ frame_in (content_in heading)
      → l.kept.numbers.items ≡ []
      → SpellsTable bytes (listed (body frame)) × IsWithinLimit (listed (body frame))
  in_turn_means frame is none = grind (arith, in_turn_told frame is none)

  pub parts_told : ¬ (l.kept.numbers.items ≡ [])
      → MeansTable bytes (content_of heading l.kept)
  parts_told some = grind arith

-- ---- the same table by its frame and rows

module _ (names : Names) (t u : Table) (ht : IsTable t) (hu : IsTable u) where
  table_again : (t : Table) → IsTable t → table_with (own_frame t) (rows t) ≡ t
  table_again t h = grind (arith, entries_again)

  abbrev SameFrame : Type 0
  SameFrame = frame_by names (own_frame t) ≡ frame_by names (own_frame u)

  pub same_by_rows : SameTable (named_by names t) (named_by names u)
      ↔ (SameFrame × (rows t ≡ rows u))
  same_by_rows =
      grind (arith, same_is_equal (named_by names t) (named_by names u), table_again)

  -- payoffs of as many players and profiles are in the same rows
  rows_parted : SameFrame → joined (rows t) ≡ joined (rows u) → rows t ≡ rows u
  rows_parted frame same =
      let first = rows_again (length t.players) (rows t) ht.one_payoff_each in
      let second = rows_again (length u.players) (rows u) hu.one_payoff_each in
      grind (arith, entries_counted t ht, entries_counted u hu, length-map)

  pub same_in_turn : SameTable (named_by names t) (named_by names u)
      ↔ (SameFrame × (joined (rows t) ≡ joined (rows u)))
  same_in_turn = grind (arith, same_by_rows, rows_parted)

pub ruleset same_listed = (same_by_rows, same_in_turn)

-- ---- a table and what was told

module _ (t : Table) (bytes : List ℕ) (heading : Heading) (c : Comparison)
    (h : HasToldTable (IsCompared (joined (rows t))) bytes heading c) where
  abbrev pub other : Content
  other = content_with heading h.payoffs h.numbers

  payoffs_compared : c.version ≡ Payoffs
      → (IsTrue c.same × (c.left ≡ [])) ↔ (joined (rows t) ≡ joined (rows (table_of other)))
  payoffs_compared version =
      let told_version = sym h.holding.version_is ∙ version in
      let compared : (joined (rows t) ≡ h.payoffs ++ []) ↔ (IsTrue c.same × (c.left ≡ [])) =
      grind arith in
      grind (arith, append-nil, payoffs_told other h.means.complete (h.unnumbered told_version))

  pub told_compared : (names : Names) (m n : Frame) → IsTable t → m ≡ own_frame t
      → n ≡ frame_in (content_in heading) → c.version ≡ Payoffs
      → SameTable (named_by names t) (named_by names (table_of other))
      ↔ ((frame_by names m ≡ frame_by names n) × (IsTrue c.same × (c.left ≡ [])))
  told_compared names m n ht mine theirs version =
      let same = same_in_turn names t (table_of other) ht (is_table other h.means.complete) in
      grind (arith, payoffs_compared version)

  pub parts_kept : c.version ≡ Outcomes
      → MeansTable bytes (content_of heading c.kept)
  parts_kept is = grind arith

-- the row at the next place
pub next_row : (rs : List (List Ratio)) (row next all : List Ratio) (place : ℕ) → length row ≡ 0
    → slice_get rs place ≡ Some next → row ++ joined (drop place rs) ≡ all
    → next ++ joined (drop (place + 1) rs) ≡ all
next_row rs [] next all place none there e = sym (ap joined (drop_from rs place next there)) ∙ e
next_row rs (payoff ∷ row) next all place none there e = absurd (omega (arith, none))
