-- Terms that fit together over one denominator, of which those that add something are left, without
-- their sizes.
use Rattle.std.specs.Prelude.{◌≡◌, ℕ, suc, ◌+◌, ◌<◌, ◌^◌, List, [], ◌∷◌}
use Rattle.std.specs.List.{AllByRecursion}
use Rattle.gf_fraction.specs.Ratio.{Ratio}
use Rattle.gf_tree.specs.Game.{Game}
use Rattle.gf_form.specs.inner.rows.ListedNodes.{AreTermsOf}
use Rattle.gf_form.specs.inner.rows.TermLists.{AreInOrder, Term, all_terms, sum_of_terms}
use Rattle.gf_form.specs.inner.rows.SettledRows.{Settles}
use Rattle.gf_form.specs.inner.values.Rows.{ArePaid}
use Rattle.gf_form.specs.declared.rows.paths.Path.{Path}
use Rattle.gf_form.specs.declared.rows.terms.Terms.{Terms}

abbrev pub sizes_of : List Term → ℕ
sizes_of [] = 0
sizes_of (e ∷ es) = e.head.size + sizes_of es

abbrev pub IsOver : ℕ → Term → Type 0
IsOver den e = e.head.den ≡ den

-- Some terms say what these nodes add. They are over the denominator of those that are left, and
-- their sizes come to this. What is left comes to the same for each player, by their place from 0.
pub record AreFitting (rows : List (List Ratio)) (rs : List Path) (size : ℕ) (left : Terms)
    : Type 0 where
  pub terms : List Term
  pub told : (g : Game) → ArePaid g rows → AreTermsOf g left.players rs terms
  pub over : AllByRecursion (IsOver left.den) terms
  pub sizes : sizes_of terms ≡ size
  pub within : size < 2 ^ 127
  pub left_over : AllByRecursion (IsOver left.den) (all_terms left)
  pub sums : (k den : ℕ) (steps choices : List ℕ) → sum_of_terms (suc k) den steps choices
      (all_terms left) ≡ sum_of_terms (suc k) den steps choices terms
  pub order : AreInOrder left

-- some terms say what these nodes add, and those that are left come to what is paid if they do
pub record AreListed (rows : List (List Ratio)) (players : ℕ) (rs : List Path) (left : List Term)
    : Type 0 where
  pub terms : List Term
  pub told : (g : Game) → ArePaid g rows → AreTermsOf g players rs terms
  pub settle : (g : Game) (number : ℕ) (steps choices : List ℕ)
      → Settles g number steps choices terms → Settles g number steps choices left
