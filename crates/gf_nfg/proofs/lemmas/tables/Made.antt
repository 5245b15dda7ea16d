-- A table that is made from labels and fractions.
use Rattle.gf_nfg.proofs.Common.{◌≡◌, ℕ, ◌*◌, ◌<◌, ◌≤◌, List, [], ◌∷◌, length, map}
use Rattle.gf_nfg.proofs.Common.{arith, Vec, rows_of, AllByRecursion, AllZip}
use Rattle.gf_nfg.proofs.Common.{length-map, label_of, Label, Ratio, IsFraction, all_both}
use Rattle.gf_nfg.proofs.Common.{all_joined, all_lists, profile_limit, product, IsTableOf, AreParts}
use Rattle.gf_nfg.proofs.Common.{AreSpellings, IsHeld, IsTable, Frame, rows, table_with}
use Rattle.gf_nfg.proofs.lemmas.tables.LabelLists.{labels_spelled}
use Rattle.gf_nfg.proofs.lemmas.tables.Lists.{full_in_turn, joined, length-rows_of, rows_in_turn}
use Rattle.gf_nfg.proofs.lemmas.tables.Rows.{entries_counted, is_table, rows-table_with}

pub lists_spelled : {Z : Type 0} (lists : List (Vec Label Z)) → AllByRecursion
    (λ own. AreSpellings own) (map (λ own. map label_of own.items) lists)
lists_spelled [] = tt
lists_spelled (own ∷ lists) = (labels_spelled own.items, lists_spelled lists)

-- the clones of fractions are these
abbrev pub AreKept : List Ratio → List Ratio → Type 0
AreKept xs ys = (ys ≡ xs) × AllByRecursion IsFraction ys

pub clones_are : (xs ys : List Ratio) → AllZip (λ x y. (y ≡ x) × IsFraction y) xs ys → AreKept xs ys
clones_are (x ∷ xs) (y ∷ ys) h = let k = clones_are xs ys h.1 in (cc (k.0, h.0.0), (h.0.1, k.1))
clones_are xs ys h = grind arith

-- ---- parts that fit

abbrev pub frame_with : Label → Label → List Label → List (List (List ℕ)) → Frame
frame_with title comment players strategies = record {
  title = label_of title;
  comment = label_of comment;
  players = map label_of players;
  strategies = strategies;
}

pub parts_of_labels : (title comment : Label) (players : List Label)
    (strategies : List (List (List ℕ))) (payoffs : List Ratio)
    → length strategies ≡ length players → AllByRecursion (λ own. 0 < length own) strategies
    → product (map length strategies) ≤ profile_limit → AllByRecursion IsFraction payoffs
    → length payoffs ≡ product (map length strategies) * length players
    → AllByRecursion (λ own. AreSpellings own) strategies
    → AreParts (frame_with title comment players strategies) payoffs
parts_of_labels title comment players strategies payoffs one some few fractions full spelled =
    search (arith, length-map, all_both, labels_spelled, all_joined)

-- ---- the table

-- a frame, and rows of these payoffs, one for each profile
module _ (frame : Frame) (payoffs : List Ratio) (p : AreParts frame payoffs) where
  abbrev pub made_rows : List (List Ratio)
  made_rows = rows_of (length frame.players) (product (map length frame.strategies)) payoffs

  counted : length made_rows ≡ product (map length frame.strategies)
  counted = length-rows_of (length frame.players) _ payoffs

  rows_are : rows (table_with frame made_rows) ≡ made_rows
  rows_are = rows-table_with frame made_rows counted

  in_turn : joined made_rows ≡ payoffs
  in_turn = rows_in_turn (length frame.players) _ payoffs p.one_row_each

  table_made : IsTable (table_with frame made_rows)
  table_made = is_table frame made_rows counted p.one_list_each p.some_strategy
      (full_in_turn (length frame.players) _ payoffs p.one_row_each)

  pub made_held : IsHeld frame made_rows
  made_held =
      let fractions = all_lists IsFraction made_rows (rw in_turn p.fractions) in
      grind (arith, table_made, entries_counted (table_with frame made_rows) table_made, rows_are)

  pub made_is : IsTableOf (table_with frame made_rows) frame.title frame.comment frame.players
      frame.strategies payoffs
  made_is = grind (arith, joined, rows_are, in_turn, is_table, table_made)

pub ruleset made_in_turn = (made_held, made_is)

pub ruleset made_of_labels = (frame_with, parts_of_labels)
