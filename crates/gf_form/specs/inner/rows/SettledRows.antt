-- Payoffs at profiles, by the terms of which they are sums.
use Rattle.std.specs.Prelude.{◌≡◌, ℕ, ℤ, suc, ◌-◌, ◌<◌, ◌≤◌, ◌^◌, List, []}
use Rattle.std.specs.Prelude.{IfSome, IsErrOf, Result, Some, get_or, length, take, true}
use Rattle.std.specs.List.{AllByRecursion}
use Rattle.gf_fraction.specs.Ratio.{HasValue, IsFraction, IsWithin, Ratio}
use Rattle.gf_nfg.specs.Limit.{profile_limit}
use Rattle.gf_nfg.specs.Profiles.{product}
use Rattle.gf_tree.specs.Game.{Game}
use Rattle.gf_tree.specs.IsGame.{IsGame}
use Rattle.gf_tree.specs.Spellable.{IsSpellable}
use Rattle.gf_form.specs.inner.rows.Demands.{spans, steps_of}
use Rattle.gf_form.specs.inner.rows.GameDigits.{HasDigits, HaveSteps, actions_at}
use Rattle.gf_form.specs.inner.rows.TermLists.{AreExactAt, AreInOrder, Term, all_terms}
use Rattle.gf_form.specs.inner.rows.TermLists.{sum_of_terms}
use Rattle.gf_form.specs.inner.values.NodeLists.{AreNodesOf}
use Rattle.gf_form.specs.inner.values.PaidRows.{rows_of}
use Rattle.gf_form.specs.inner.strategies.ProfileNumbers.{AreProfileNumbers, numbered_profiles}
use Rattle.gf_form.specs.inner.rows.ProfileRows.{AreRowsAt}
use Rattle.gf_form.specs.Refusal.{HasValues, IsFirstWithout}
use Rattle.gf_form.specs.inner.values.Rows.{ArePaid}
use Rattle.gf_form.specs.StrategicForm.{ArePayoffsAt}
use Rattle.gf_form.specs.Strategies.{all_choices, choices_by, full_profiles, strategies_at}
use Rattle.gf_form.specs.inner.values.Values.{value}
use Rattle.gf_token.specs.declared.form_fault.FormFault.{FormFault}
use Rattle.gf_token.specs.declared.form_fault.FormFault.TheVariants.{Overflow, TooManyProfiles}
use Rattle.gf_form.specs.declared.rows.digits.Digit.{Digit}
use Rattle.gf_form.specs.declared.rows.terms.Terms.{Terms}
use Rattle.gf_form.specs.declared.rows.asked.Asked.{Asked}
use Rattle.gf_form.specs.declared.rows.asked.Run.{Run}
use Rattle.gf_form.specs.declared.rows.written.Written.{Written}

-- the player, by their place from 0, has this number over this denominator as their value at the
-- profile with this number, from 0, among all
pub record PaysOver (g : Game) (number k den : ℕ) (whole : ℤ) : Type 0 where
  pub payoff : Ratio
  pub fraction : IsFraction payoff
  pub is_value : value g (choices_by g (strategies_at g (get_or (full_profiles g) number [])))
      (suc k) g.tree ≡ Some payoff
  pub over : HasValue payoff whole den

-- what terms come to at these choices is what is paid at a profile, if it is known to fit
abbrev pub Settles : Game → ℕ → List ℕ → List ℕ → List Term → Type 0
Settles g number steps choices es = (k : ℕ) → k < length g.players → (den : ℕ) → 0 < den
    → den < 2 ^ 127 → AreExactAt den steps choices es → IsWithin (sum_of_terms 0 den steps choices es)
    → PaysOver g number k den (sum_of_terms (suc k) den steps choices es)

-- the choices at these digits have the number of the profile, less that of the first choices
pub record SettlesAt (g : Game) (actions : List ℕ) (terms : Terms) (least number : ℕ) : Type 0 where
  pub from : least ≤ number
  pub to : number - least < product actions
  pub settles : Settles g number (steps_of actions)
      (get_or (all_choices actions) (number - least) []) (all_terms terms)

-- ---- what is asked

abbrev pub asked_profiles : Asked → List (List ℕ)
asked_profiles asked = numbered_profiles asked.game.now asked.numbers.now

pub record IsAsked (asked : Asked) : Type 0 where
  pub is_game : IsGame asked.game.now
  pub spellable : IsSpellable asked.game.now
  pub digits : HasDigits asked.game.now asked.digits.now
  pub payoffs : ArePaid asked.game.now (rows_of asked.payoffs.now)
  pub numbers : AreProfileNumbers asked.game.now asked.numbers.now
  pub few : length asked.numbers.now ≤ profile_limit
  pub places : asked.are_places ≡ true → (i : ℕ) → i < length asked.numbers.now
      → get_or asked.numbers.now i 0 ≡ i

-- this many of the first rows
pub record AreWritten (asked : Asked) (count : ℕ) (written : Written) : Type 0 where
  pub rows : AreRowsAt (ArePayoffsAt asked.game.now)
      (take count (asked_profiles asked)) written.rows.items
  pub values : AllByRecursion (HasValues asked.game.now) (take count (asked_profiles asked))
  pub nodes : IfSome written.nodes (AreNodesOf asked.game.now)

-- the terms settle the rows of these profiles
abbrev pub SettleRows : Asked → List ℕ → Terms → Run → Type 0
SettleRows asked actions terms run = (i : ℕ) → run.from ≤ i → i < run.to
    → SettlesAt asked.game.now actions terms run.first (get_or asked.numbers.now i 0)

-- the rows of the profiles of a run come next
abbrev pub AreDue : Asked → Run → Written → Type 0
AreDue asked run written = IsAsked asked × (run.from ≤ run.to) × (run.to ≤ length asked.numbers.now)
    × AreWritten asked run.from written

-- terms in order, with a number for each player
abbrev pub AreTermsFor : Asked → Terms → Type 0
AreTermsFor asked terms = AreInOrder terms × (terms.players ≡ length asked.game.now.players)

-- the terms settle the rows of these profiles, by choices of an action at each of these digits
pub record SettleBy (asked : Asked) (terms : Terms) (digits : List Digit) (run : Run)
    : Type 0 where
  pub are_terms : AreTermsFor asked terms
  pub steps : HaveSteps digits
  pub within : product (spans (actions_at digits)) < 2 ^ 64
  pub count : run.count ≡ product (actions_at digits)
  pub settles : SettleRows asked (actions_at digits) terms run

-- if it is refused, then at the first profile without values, or because memory is refused
abbrev pub IsRightlyRefused : {A : Type 0} → Asked → Result A FormFault → Type 0
IsRightlyRefused asked result = (IsErrOf result TooManyProfiles → ⊥)
    × ((position : ℕ) → IsErrOf result (Overflow position)
    → IsFirstWithout (HasValues asked.game.now) (asked_profiles asked) position)
