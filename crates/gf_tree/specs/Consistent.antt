-- Which file trees describe their sets and outcomes at first use, and never in two different ways.
use Rattle.std.specs.Prelude.{◌≡◌, ℕ, List, ◌∷◌, ◌++◌, length, Some, MatchOption}
use Rattle.std.specs.List.{AllByRecursion, Contains}
use Rattle.gf_tree.specs.PrefixOrder.{Listed, flatten}
use Rattle.gf_tree.specs.Description.{SetKey, InformationSet, Outcome, IsSet, IsOutcome}
use Rattle.gf_tree.specs.FileTree.{Use, FileNode, FileTree, set_uses, outcome_uses}

-- a use describes its key in this way
abbrev pub Describes : {K D : Type 0} → List (Use K D) → K → D → Type 0
Describes uses key description =
    Contains uses (record { key = key; description = Some description })

-- after these uses, this one is the first of its key
abbrev pub IsFirstUse : {K D : Type 0} → List (Use K D) → Use K D → Type 0
IsFirstUse before u = AllByRecursion (λ v. ¬ (v.key ≡ u.key)) before

-- a use with a description
abbrev pub IsDescribed : {K D : Type 0} → Use K D → Type 0
IsDescribed {K} {D} u = (d : D) × (u.description ≡ Some d)

-- the first use of a key describes it, and any two descriptions of one key are equal
pub record AreConsistent {K D : Type 0} (uses : List (Use K D)) : Type 0 where
  pub first_described : (before after : List (Use K D)) (u : Use K D) → uses ≡ before ++ u ∷ after
      → IsFirstUse before u → IsDescribed u
  pub described_alike : (key : K) (c d : D) → Describes uses key c → Describes uses key d → c ≡ d

-- a terminal node has no children, and any other node has as many as its set has actions
abbrev pub HasChildrenAsDescribed : List (Use SetKey InformationSet) → Listed FileNode → Type 0
HasChildrenAsDescribed uses e = MatchOption e.node.set (e.children ≡ 0)
    (λ u. (set : InformationSet) → Describes uses u.key set → length set.actions ≡ e.children)

-- the uses of sets are consistent, and so are those of outcomes; each description is one of a set
-- or an outcome among these players; and each node has its children
pub record IsConsistent (f : FileTree) : Type 0 where
  pub sets : AreConsistent (set_uses (flatten f.tree))
  pub outcomes : AreConsistent (outcome_uses (flatten f.tree))
  pub each_set : (key : SetKey) (set : InformationSet)
      → Describes (set_uses (flatten f.tree)) key set → IsSet (length f.players) key set
  pub each_outcome : (number : ℕ) (outcome : Outcome)
      → Describes (outcome_uses (flatten f.tree)) number outcome
      → IsOutcome (length f.players) number outcome
  pub children : AllByRecursion (HasChildrenAsDescribed (set_uses (flatten f.tree)))
      (flatten f.tree)
