-- The file of a game in which each use of a set or an outcome is described exactly when its key was
-- not used before.
use Rattle.std.specs.Prelude.{◌≡◌, ◌↔◌, List, ◌∷◌, ◌++◌}
use Rattle.gf_tree.specs.PrefixOrder.{flatten}
use Rattle.gf_tree.specs.FileTree.{Use, FileTree, set_uses, outcome_uses}
use Rattle.gf_tree.specs.Consistent.{IsConsistent, IsDescribed, IsFirstUse}
use Rattle.gf_tree.specs.Game.{Game}
use Rattle.gf_tree.specs.GameOf.{IsGameOf}

-- exactly the first uses are described
abbrev pub DescribeFirstUses : {K D : Type 0} → List (Use K D) → Type 0
DescribeFirstUses {K} {D} uses = (before after : List (Use K D)) (u : Use K D)
    → uses ≡ before ++ u ∷ after → IsDescribed u ↔ IsFirstUse before u

-- the file tree of a game in which exactly the first uses are described
pub record IsFileOf (g : Game) (f : FileTree) : Type 0 where
  pub consistent : IsConsistent f
  pub game : IsGameOf f g
  pub sets : DescribeFirstUses (set_uses (flatten f.tree))
  pub outcomes : DescribeFirstUses (outcome_uses (flatten f.tree))
