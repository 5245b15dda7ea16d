-- What was read in full means a table, and a table can be recovered from its parts.
use Rattle.gf_nfg.proofs.Common
use Common.{AllByRecursion, profile_limit, IsWithinLimit, strategies_of, length-take, length-drop}
use Common.{IsSpellable, length-map, all_mapped, HasPayoffs, IsComplete, HasLabels, mul_comm, arith}
use Common.{frame_in, table_of, product, IsTable, HasRows, Content, rows_by, length, groups, IsHeld}
use Common.{Ratio, Frame, List, drop, refl, rows, ◌≡◌, ◌<◌, ◌≤◌, ◌∷◌, map, sym, ◌∙◌, sum, [], ℕ}
use Rattle.gf_nfg.proofs.lemmas.tables.Lists.{joined, sum-cons, counts_back, groups-joined}
use Rattle.gf_nfg.proofs.lemmas.tables.Rows as kept

-- ---- strategies

length-groups : {A : Type 0} (sizes : List ℕ) (items : List A) → length items ≡ sum sizes
    → map length (groups sizes items) ≡ sizes
length-groups [] items e = refl
length-groups (n ∷ sizes) items e =
    grind (arith, sum-cons, length-drop, length-take, length-groups sizes (drop n items))

-- the strategies are as many as the counts say
pub counts-strategies_of : (counts : List ℕ) (labels : List (List ℕ)) → HasLabels counts labels
    → map length (strategies_of counts labels) ≡ counts
counts-strategies_of counts labels h = grind (arith, counts_back, length-groups)

pub strategies_of-joined : (lists : List (List (List ℕ)))
    → AllByRecursion (λ n. 0 < n) (map length lists)
    → strategies_of (map length lists) (joined lists) ≡ lists
strategies_of-joined ((label ∷ labels) ∷ lists) h = groups-joined ((label ∷ labels) ∷ lists)
strategies_of-joined lists h = grind arith

-- ---- rows

pub has_rows : (c : Content) (choices : List ℕ) → HasPayoffs c choices
    → HasRows (length c.players) c.profiles c.payoffs choices
has_rows c choices h = grind (arith, mul_comm)

pub ruleset rows_of_parts = (has_rows, length-map)

-- ---- the table

module _ (c : Content) (h : IsComplete c) where
  abbrev rs : List (List Ratio)
  rs = rows_by c c.choices

  pub profiles_counted : c.profiles ≡ product (map length (frame_in c).strategies)
  profiles_counted = grind (arith, counts-strategies_of)

  one_row_each : length rs ≡ product (map length (frame_in c).strategies)
  one_row_each = (grind (arith, kept.rows_counted, has_rows)) ∙ profiles_counted

  pub rows-table_of : rows (table_of c) ≡ rs
  rows-table_of = kept.rows-table_with (frame_in c) rs one_row_each

  pub is_table : IsTable (table_of c)
  is_table = kept.is_table (frame_in c) rs one_row_each
      (grind (arith, counts-strategies_of, length-map))
      (grind (arith, counts-strategies_of, all_mapped))
      (kept.full_rows (length c.players) c.profiles c.payoffs c.choices
      (has_rows c c.choices h.has_rows))

  pub length-entries : length (table_of c).entries ≡ c.profiles
  length-entries = kept.entries_counted (table_of c) is_table ∙ sym profiles_counted

  pub within_limit : c.profiles ≤ profile_limit → IsWithinLimit (table_of c)
  within_limit within = omega (arith, length-entries, within)

  pub held : (frame : Frame) (qs : List (List Ratio)) → frame ≡ frame_in c → qs ≡ rs
      → c.profiles ≤ profile_limit → IsSpellable (table_of c) → IsHeld frame qs
  held frame qs n r within spellable = grind (arith, is_table, within_limit, rows-table_of)
