-- Descriptions learned use by use, in the order of a file.
use Rattle.std.specs.Prelude.{◌≡◌, nat_eq, length, Bool, ◌⊎◌, List, [], ◌∷◌, ◌++◌, Some, None}
use Rattle.std.specs.Prelude.{MatchOption}
use Rattle.std.specs.List.{AllByRecursion}
use Rattle.gf_tree.specs.PrefixOrder.{flatten}
use Rattle.gf_tree.specs.Game.{Game}
use Rattle.gf_tree.specs.IsGame.{HasChildren}
use Rattle.gf_tree.specs.GameOf.{KeepsTree}
use Rattle.gf_tree.specs.Description.{same_set, IsSet, IsOutcome}
use Rattle.gf_tree.specs.FiniteMap.{Described, description_at}
use Rattle.gf_tree.specs.FileTree.{Use, FileTree, set_uses, outcome_uses}

-- From what is known already, the uses lead to what is known in the end. The use of a key that is
-- not known describes it; any other use has no description, or the known one.
abbrev pub Learns : {K D : Type 0}
    → (K → K → Bool) → List (Described K D) → List (Use K D) → List (Described K D) → Type 0
Learns same known [] end = end ≡ known
Learns {K} {D} same known (u ∷ us) end = MatchOption (description_at same known u.key)
    ((d : D) × (u.description ≡ Some d)
    × Learns same (known ++ record { key = u.key; description = d } ∷ []) us end)
    (λ d. ((u.description ≡ None) ⊎ (u.description ≡ Some d)) × Learns same known us end)

-- the game of a file, whose descriptions are learned in this way and are those of sets and outcomes
pub record LearnsGame (f : FileTree) (g : Game) : Type 0 where
  pub kept : KeepsTree f g
  pub sets : Learns same_set [] (set_uses (flatten f.tree)) g.sets
  pub outcomes : Learns nat_eq [] (outcome_uses (flatten f.tree)) g.outcomes
  pub each_set : AllByRecursion (λ s. IsSet (length g.players) s.key s.description) g.sets
  pub each_outcome : AllByRecursion (λ o. IsOutcome (length g.players) o.key o.description)
      g.outcomes
  pub children : AllByRecursion (HasChildren g) (flatten g.tree)
