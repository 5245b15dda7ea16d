-- Which games a file can hold.
use Rattle.std.specs.Prelude.{ℕ, MatchOption, ◌^◌, ◌<◌, ⊤}
use Rattle.std.specs.List.{AllByRecursion}
use Rattle.gf_fraction.specs.Ratio.{IsFraction}
use Rattle.gf_token.specs.LabelSpelling.{IsLabel}
use Rattle.gf_tree.specs.PrefixOrder.{flatten}
use Rattle.gf_tree.specs.FiniteMap.{Described}
use Rattle.gf_tree.specs.Game.{Game}
use Rattle.gf_tree.specs.Description.{Action, SetKey, InformationSet, Outcome}

abbrev pub IsSpellableAction : Action → Type 0
IsSpellableAction a = IsLabel a.label × MatchOption a.probability ⊤ IsFraction

pub record IsSpellableSet (s : Described SetKey InformationSet) : Type 0 where
  pub player : s.key.player < 2 ^ 32
  pub number : s.key.number < 2 ^ 32
  pub name : IsLabel s.description.name
  pub actions : AllByRecursion IsSpellableAction s.description.actions

pub record IsSpellableOutcome (o : Described ℕ Outcome) : Type 0 where
  pub number : o.key < 2 ^ 32
  pub name : IsLabel o.description.name
  pub payoffs : AllByRecursion IsFraction o.description.payoffs

-- its labels are spellings of labels, its probabilities and payoffs are fractions, and its numbers
-- are indices
pub record IsSpellable (g : Game) : Type 0 where
  pub title : IsLabel g.title
  pub comment : IsLabel g.comment
  pub players : AllByRecursion IsLabel g.players
  pub nodes : AllByRecursion (λ e. IsLabel e.node.name) (flatten g.tree)
  pub sets : AllByRecursion IsSpellableSet g.sets
  pub outcomes : AllByRecursion IsSpellableOutcome g.outcomes
