-- Terms that are added up for each choice of an action at each digit.
use Rattle.std.specs.Prelude.{◌≡◌, ℕ, ◌+◌, ◌<◌, ◌≤◌, ◌^◌, List, ◌++◌, map}
use Rattle.std.specs.List.{AllByRecursion, AllZip}
use Rattle.gf_nfg.specs.Profiles.{product}
use Rattle.gf_form.specs.inner.rows.Demands.{spans, steps_of}
use Rattle.gf_form.specs.inner.rows.GameDigits.{HaveSteps, actions_at}
use Rattle.gf_form.specs.inner.rows.TermLists.{AreAlike, AreExactAt, AreInOrder, ComeTo, EndsBelow}
use Rattle.gf_form.specs.inner.rows.TermLists.{Term, all_terms, with_demands}
use Rattle.gf_form.specs.declared.rows.digits.Digit.{Digit}
use Rattle.gf_form.specs.declared.rows.terms.Terms.{Terms}

-- one of this many actions at each digit
abbrev pub AreActions : List ℕ → List ℕ → Type 0
AreActions actions choices = AllZip (λ c n. (1 ≤ c) × (c ≤ n)) choices actions

-- at each choice, the first come to what the others come to
abbrev pub AddUpTo : List ℕ → List Term → List Term → Type 0
AddUpTo actions es sums = (den : ℕ) (choices : List ℕ) → AreActions actions choices
    → AreExactAt den (steps_of actions) choices sums
    → ComeTo den (steps_of actions) choices es (steps_of actions) choices sums

-- the same with demands that are more by this
abbrev pub raised : ℕ → Term → Term
raised more e = with_demands (e.head.demands + more) e

-- more terms, to which others add up, raised by this
pub record HasSums (actions : List ℕ) (least : ℕ) (es old new : List Term) : Type 0 where
  pub sums : List Term
  pub is : new ≡ old ++ map (raised least) sums
  pub within : AllByRecursion (λ e. e.head.demands < product (spans actions)) sums
  pub add_up : AddUpTo actions es sums

-- what the terms of one list come to at each choice for these digits may come next in another, as
-- terms that demand the choice, raised by this
pub record MayAddUp (digits : List Digit) (least : ℕ) (from to : Terms) : Type 0 where
  pub alike : AreAlike to from
  pub order : AreInOrder to × AreInOrder from
  pub ends : EndsBelow to.demands.items least
  pub steps : HaveSteps digits
  pub within : least + product (spans (actions_at digits)) < 2 ^ 64

-- these terms came next, in order
pub record AreAddedUp (digits : List Digit) (least : ℕ) (from old new : Terms) : Type 0 where
  pub sums : HasSums (actions_at digits) least (all_terms from) (all_terms old) (all_terms new)
  pub order : AreInOrder new
  pub ends : EndsBelow new.demands.items (least + product (spans (actions_at digits)))
