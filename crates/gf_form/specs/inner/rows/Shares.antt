-- What the nodes that choices reach add to a player's payoff, over one denominator for all.
use Rattle.std.specs.Prelude.{Bool, false, true, ◌≡◌, ℕ, ℤ, pos, ◌*◌, ◌/◌, ◌<◌, ◌≤◌, ◌==◌, ◌^◌}
use Rattle.std.specs.Prelude.{◌*ℤ◌, List, [], ◌∷◌, Some, unsigned_abs, if◌then◌else◌, length}
use Rattle.std.specs.Prelude.{get_or, map}
use Rattle.gf_fraction.specs.Ratio.{Ratio}
use Rattle.gf_nfg.specs.Profiles.{product}
use Rattle.gf_tree.specs.Description.{SetKey, InformationSet}
use Rattle.gf_tree.specs.Game.{Game, set_at}
use Rattle.gf_form.specs.inner.rows.Demands.{spans, steps_of}
use Rattle.gf_form.specs.inner.rows.TermLists.{AreExactAt, Term, IsExactAt, number_at, sum_of_terms}
use Rattle.gf_form.specs.inner.values.Rows.{paid}
use Rattle.gf_form.specs.declared.rows.paths.Path.{Path}
use Rattle.gf_form.specs.declared.rows.share.Share.{Share}

-- What a path adds to a payoff, as a term for one player: probability times payoff. Its size does
-- not depend on whether probabilities are zero. A payoff of zero is over any denominator.
abbrev pub term_of : Path → Ratio → Term
term_of path pay = record {
  head = record {
    demands = path.demands;
    den = if unsigned_abs pay.num == 0 then 1 else path.den * pay.den;
    size = path.bound * unsigned_abs pay.num;
  };
  row = (pos path.weight *ℤ pay.num) ∷ [];
}

-- what a term of one player comes to over a denominator, if there is no remainder
pub record IsShare (e : Term) (den : ℕ) (s : Share) : Type 0 where
  pub exact : IsExactAt den [] [] e
  pub amount_is : s.amount ≡ number_at 1 e *ℤ pos (den / e.head.den)
  pub bound_is : s.bound ≡ e.head.size * (den / e.head.den)

-- what the node's outcome pays the player
abbrev pub pay_at : Game → ℕ → Path → Ratio
pay_at g player r = paid g player r.outcome

-- what the node adds for the player
abbrev pub node_term : Game → ℕ → Path → Term
node_term g player r = term_of r (pay_at g player r)

abbrev pub node_terms : Game → ℕ → List Path → List Term
node_terms g player rs = map (node_term g player) rs

-- what the nodes that these choices, one for each digit, reach come to
abbrev pub sum_of_shares : Game → ℕ → ℕ → List ℕ → List ℕ → List Path → ℤ
sum_of_shares g player den steps choices rs =
    sum_of_terms 1 den steps choices (node_terms g player rs)

-- what their sizes come to
abbrev pub met_bounds : Game → ℕ → ℕ → List ℕ → List ℕ → List Path → ℕ
met_bounds g player den steps choices rs =
    unsigned_abs (sum_of_terms 0 den steps choices (node_terms g player rs))

-- the share of none of them has a remainder
abbrev pub AreExactShares : Game → ℕ → ℕ → List ℕ → List ℕ → List Path → Type 0
AreExactShares g player den steps choices rs =
    AreExactAt den steps choices (node_terms g player rs)

-- over this denominator, no share of the player that these choices reach has a remainder, and all
-- of these together are within bounds
pub record FitsAt (g : Game) (player den : ℕ) (steps choices : List ℕ) (rs : List Path) : Type 0
  where
    pub den_above_zero : 0 < den
    pub den_within : den < 2 ^ 127
    pub exact : AreExactShares g player den steps choices rs
    pub within : met_bounds g player den steps choices rs < 2 ^ 127

-- at one place of these lists stand a step, a number of actions and a choice
pub record ArePlaced (steps counts choices : List ℕ) (step count choice : ℕ) : Type 0 where
  pub place : ℕ
  pub within : place < length counts
  pub step_is : get_or steps place 0 ≡ step
  pub count_is : get_or counts place 0 ≡ count
  pub choice_is : get_or choices place 0 ≡ choice

-- These are the numbers of actions at the digits, from the slowest on, and the choices at them, if
-- each of these sets has the step of its digit, or 0 if it has only one action, and all others have
-- none. A set with only one action has no digit, and its action is chosen; any other set has one,
-- with a value for each action, at which the choice is the same. All values of all digits are
-- within 64 bits.
pub record AreDigits (g : Game) (owns : SetKey → Bool) (steps choose : SetKey → ℕ)
    (actions choices : List ℕ) : Type 0 where
  pub within : product (spans actions) < 2 ^ 64
  pub one_each : length choices ≡ length actions
  pub other : (key : SetKey) → owns key ≡ false → steps key ≡ 0
  pub chosen : (key : SetKey) (set : InformationSet) → set_at g key ≡ Some set
      → owns key ≡ true → (1 ≤ choose key) × (choose key ≤ length set.actions)
  pub alone : (key : SetKey) (set : InformationSet) → set_at g key ≡ Some set
      → owns key ≡ true → steps key ≡ 0 → length set.actions ≡ 1
  pub several : (key : SetKey) (set : InformationSet) → set_at g key ≡ Some set
      → owns key ≡ true → ¬ (steps key ≡ 0)
      → ArePlaced (steps_of actions) actions choices (steps key) (length set.actions) (choose key)
