-- Which records are games.
use Rattle.std.specs.Prelude.{◌≡◌, nat_eq, length, map, MatchOption, Some, option_map}
use Rattle.std.specs.List.{AllByRecursion}
use Rattle.gf_tree.specs.PrefixOrder.{Listed, flatten}
use Rattle.gf_tree.specs.Description.{same_set, IsSet, IsOutcome}
use Rattle.gf_tree.specs.FiniteMap.{first_uses}
use Rattle.gf_tree.specs.Game.{Game, Node, set_at, used_sets, used_outcomes}

-- a terminal node has no children, and any other node has as many as its set has actions
abbrev pub HasChildren : Game → Listed Node → Type 0
HasChildren g e = MatchOption e.node.set (e.children ≡ 0)
    (λ key. option_map (λ set. length set.actions) (set_at g key) ≡ Some e.children)

-- each key in the tree has one entry, and no other key has one; the entries describe sets and
-- outcomes; and each node has its children. `IsSpellable` says that a file can hold its labels and
-- numbers.
pub record IsGame (g : Game) : Type 0 where
  pub one_entry_each_set : map (λ s. s.key) g.sets ≡ first_uses same_set (used_sets g.tree)
  pub one_entry_each_outcome : map (λ o. o.key) g.outcomes
      ≡ first_uses nat_eq (used_outcomes g.tree)
  pub each_set : AllByRecursion (λ s. IsSet (length g.players) s.key s.description) g.sets
  pub each_outcome : AllByRecursion (λ o. IsOutcome (length g.players) o.key o.description)
      g.outcomes
  pub children : AllByRecursion (HasChildren g) (flatten g.tree)
