-- The form of a game by its pure or by its reduced strategies, and why there is none.
use Rattle.std.specs.Prelude.{◌≤◌, ℕ, List, length}
use Rattle.std.specs.List.{Contains}
use Rattle.gf_nfg.specs.Table.{Table}
use Rattle.gf_tree.specs.Game.{Game}
use Rattle.gf_form.specs.Reduced.{IsReducedForm, reduced_profiles}
use Rattle.gf_form.specs.Refusal.{HasReducedValues, HasTooManyProfiles, HasValues}
use Rattle.gf_form.specs.Refusal.{OverflowsAt, ReducedOverflowsAt}
use Rattle.gf_form.specs.StrategicForm.{IsStrategicForm}
use Rattle.gf_form.specs.Strategies.{full_profiles}
use Rattle.gf_token.specs.declared.form_fault.FormFault.{FormFault}
use Rattle.gf_token.specs.declared.form_fault.FormFault.TheVariants.{TooManyProfiles, Overflow, Memory}
use Rattle.gf_form.specs.declared.forms.Strategies.{Strategies}
use Rattle.gf_form.specs.declared.forms.Strategies.TheVariants.{Pure, Reduced}

-- no more players than a table can have
abbrev pub HasFewPlayers : Game → Type 0
HasFewPlayers g = length g.players ≤ 4294967295

-- the form of a game by its pure or by its reduced strategies
abbrev pub IsFormBy : Strategies → Game → Table → Type 0
IsFormBy Pure g t = IsStrategicForm g t
IsFormBy Reduced g t = IsReducedForm g t

-- each player has a bottom-up value at each profile
abbrev pub HasValuesBy : Strategies → Game → Type 0
HasValuesBy Pure g = (profile : List ℕ) → Contains (full_profiles g) profile → HasValues g profile
HasValuesBy Reduced g =
    (profile : List ℕ) → Contains (reduced_profiles g) profile → HasReducedValues g profile

-- the first profile of these at which not each player has one
abbrev pub OverflowsBy : Strategies → Game → ℕ → Type 0
OverflowsBy Pure g profile = OverflowsAt g profile
OverflowsBy Reduced g profile = ReducedOverflowsAt g profile

-- the form of a game, and nothing rules it out
pub record IsFormOf (strategies : Strategies) (g : Game) (t : Table) : Type 0 where
  pub form : IsFormBy strategies g t
  pub few : ¬ (HasTooManyProfiles g)
  pub values : HasValuesBy strategies g

-- why no table is made of a game
abbrev pub IsWithoutForm : Strategies → Game → FormFault → Type 0
IsWithoutForm strategies g TooManyProfiles = HasTooManyProfiles g
IsWithoutForm strategies g (Overflow profile) =
    ¬ (HasTooManyProfiles g) × OverflowsBy strategies g profile
IsWithoutForm strategies g Memory = Unit {0}
