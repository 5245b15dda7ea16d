-- The table that what was read means.
use Rattle.std.specs.Prelude.{◌≡◌, ℕ, ◌*◌, ◌<◌, ◌≤◌, List, [], ◌∷◌, length, map, sum}
use Rattle.std.specs.List.{AllByRecursion}
use Rattle.gf_fraction.specs.Ratio.{Ratio}
use Rattle.gf_nfg.specs.Profiles.{product}
use Rattle.gf_nfg.specs.Table.{Table}
use Rattle.gf_nfg.specs.Sentence.{counted_labels}
use Rattle.gf_nfg.specs.inner.TableParts.{Frame, groups, kept_rows, table_with}
use Rattle.gf_nfg.specs.inner.Machine.{Content}

-- for this many strategies of each player, and their labels in turn, or none if there are only
-- counts
abbrev pub strategies_of : List ℕ → List (List ℕ) → List (List (List ℕ))
strategies_of counts [] = map counted_labels counts
strategies_of counts (label ∷ labels) = groups counts (label ∷ labels)

abbrev pub frame_in : Content → Frame
frame_in c = record {
  title = c.title;
  comment = c.comment;
  players = c.players;
  strategies = strategies_of c.counts c.labels;
}

-- the rows of the profiles; if no outcomes are chosen, they come in turn
abbrev pub rows_by : Content → List ℕ → List (List Ratio)
rows_by c choices = kept_rows (length c.players) c.profiles c.payoffs choices

abbrev pub table_of : Content → Table
table_of c = table_with (frame_in c) (rows_by c c.choices)

-- the payoffs are rows of the profiles, or of outcomes of which one is chosen for each profile
abbrev pub HasPayoffs : Content → List ℕ → Type 0
HasPayoffs c [] = length c.payoffs ≡ length c.players * c.profiles
HasPayoffs c (k ∷ choices) =
    (outcomes : ℕ) × (length c.payoffs ≡ length c.players * outcomes)
    × (length (k ∷ choices) ≡ c.profiles) × AllByRecursion (λ n. n ≤ outcomes) (k ∷ choices)

-- a label for each strategy, or none at all
abbrev pub HasLabels : List ℕ → List (List ℕ) → Type 0
HasLabels counts [] = Unit {0}
HasLabels counts (label ∷ labels) = length (label ∷ labels) ≡ sum counts

-- a positive count for each player, as many labels, and as many rows as there are profiles
pub record IsComplete (c : Content) : Type 0 where
  pub one_count_each : length c.counts ≡ length c.players
  pub some_strategy : AllByRecursion (λ n. 0 < n) c.counts
  pub profiles_are : c.profiles ≡ product c.counts
  pub has_labels : HasLabels c.counts c.labels
  pub has_rows : HasPayoffs c c.choices
