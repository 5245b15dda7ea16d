-- The nodes that pay somebody something, of those that choices can reach.
use Rattle.std.specs.Prelude.{ℕ, Bool, List, length, nat_lt}
use Rattle.std.specs.List.{filter}
use Rattle.gf_fraction.specs.Ratio.{Ratio}
use Rattle.gf_tree.specs.Description.{SetKey}
use Rattle.gf_tree.specs.Game.{Game}
use Rattle.gf_form.specs.inner.rows.ReachedNodes.{reached, root_path}
use Rattle.gf_form.specs.inner.values.Rows.{row_at}
use Rattle.gf_form.specs.declared.rows.paths.Path.{Path}

-- whether the row of its outcome pays somebody something
abbrev pub is_paid : List (List Ratio) → Path → Bool
is_paid rows r = nat_lt 0 (length (row_at rows r.outcome))

-- in prefix order, if each set has the step of its digit
abbrev pub paid_reached : List (List Ratio) → Game → (SetKey → ℕ) → List Path
paid_reached rows g steps = filter (is_paid rows) (reached g steps root_path g.tree)
