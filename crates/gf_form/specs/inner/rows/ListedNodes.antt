-- The terms of nodes that choices can reach.
use Rattle.std.specs.Prelude.{unsigned_abs, List, ◌≡◌, suc, ◌<◌, ◌≤◌, [], ℕ, ℤ}
use Rattle.gf_fraction.specs.Ratio.{IsWithin, Ratio}
use Rattle.gf_tree.specs.Game.{Game}
use Rattle.gf_form.specs.inner.rows.TermLists.{AreExactAt, AreInOrder, Term, all_terms}
use Rattle.gf_form.specs.inner.rows.TermLists.{sum_of_terms}
use Rattle.gf_form.specs.inner.values.Rows.{ArePaid}
use Rattle.gf_form.specs.inner.rows.Shares.{AreExactShares, met_bounds, sum_of_shares}
use Rattle.gf_form.specs.declared.rows.paths.Path.{Path}
use Rattle.gf_form.specs.declared.rows.terms.Scaled.{Scaled}
use Rattle.gf_form.specs.declared.rows.terms.Terms.{Terms}

-- over this denominator, the shares of these nodes come to this number for the player, by their
-- place from 0, and their bounds to at most this size
pub record HasShares (g : Game) (rs : List Path) (k den size : ℕ) (number : ℤ) : Type 0 where
  pub exact : AreExactShares g (suc k) den [] [] rs
  pub number_is : number ≡ sum_of_shares g (suc k) den [] [] rs
  pub bound : met_bounds g (suc k) den [] [] rs ≤ size

-- the same for a number in bounds, if the denominator is known to serve
abbrev pub IsShareAt : List (List Ratio) → List Path → Scaled → ℕ → ℤ → Type 0
IsShareAt rows rs over k number = IsWithin number
    × (0 < over.den → (g : Game) → ArePaid g rows → HasShares g rs k over.den over.size number)

-- over this denominator and at these choices, the terms come to the shares of a player, by their
-- place from 0, in the nodes that the choices reach
pub record Tells (g : Game) (k den : ℕ) (steps choices : List ℕ) (rs : List Path)
    (es : List Term) : Type 0 where
  pub exact : AreExactShares g (suc k) den steps choices rs
  pub sums : sum_of_shares g (suc k) den steps choices rs
      ≡ sum_of_terms (suc k) den steps choices es
  pub bounds : met_bounds g (suc k) den steps choices rs
      ≤ unsigned_abs (sum_of_terms 0 den steps choices es)

-- the terms say what these nodes add
abbrev pub AreTermsOf : Game → ℕ → List Path → List Term → Type 0
AreTermsOf g players rs es = (k : ℕ) → k < players → (den : ℕ) (steps choices : List ℕ)
    → AreExactAt den steps choices es → Tells g k den steps choices rs es

-- the terms, in order, say what these nodes add
pub record TellNodes (rows : List (List Ratio)) (rs : List Path) (terms : Terms) : Type 0 where
  pub told : (g : Game) → ArePaid g rows → AreTermsOf g terms.players rs (all_terms terms)
  pub order : AreInOrder terms
