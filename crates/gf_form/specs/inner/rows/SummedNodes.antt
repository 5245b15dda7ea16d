-- Nodes with the same demands and the same outcome, added up.
use Rattle.std.specs.Prelude.{◌≡◌, ℕ, ◌+◌, ◌*◌, ◌/◌, ◌<◌, List}
use Rattle.std.specs.Int.{◌∣◌}
use Rattle.gf_tree.specs.Game.{Game}
use Rattle.gf_form.specs.inner.rows.TermLists.{ComeAsWell}
use Rattle.gf_form.specs.inner.rows.Shares.{node_terms}
use Rattle.gf_form.specs.declared.rows.paths.Path.{Path}

-- the weights and the bounds of the two are added over a denominator that serves both
pub record IsPathSum (a b sum : Path) : Type 0 where
  pub first : 0 < a.den
  pub first_divides : a.den ∣ sum.den
  pub second : 0 < b.den
  pub second_divides : b.den ∣ sum.den
  pub weight : sum.weight ≡ a.weight * (sum.den / a.den) + b.weight * (sum.den / b.den)
  pub bound : sum.bound ≡ a.bound * (sum.den / a.den) + b.bound * (sum.den / b.den)

-- all have the same demands and outcome, and the last is the sum of the others, if it is known
pub record IsNodeSum (a b sum : Path) : Type 0 where
  pub first_demands : sum.demands ≡ a.demands
  pub second_demands : sum.demands ≡ b.demands
  pub first_outcome : a.outcome ≡ sum.outcome
  pub second_outcome : b.outcome ≡ sum.outcome
  pub adds : 0 < sum.den → IsPathSum a b sum

-- the shares of the first are those of the second, over any denominator and at any choices
abbrev pub HaveSharesOf : List Path → List Path → Type 0
HaveSharesOf rs ss = (g : Game) (player : ℕ) → ComeAsWell (node_terms g player rs)
    (node_terms g player ss)
