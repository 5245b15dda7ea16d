-- What a renumbering carries to what, part by part.
use Rattle.std.specs.Prelude.{◌≡◌, ℕ}
use Rattle.gf_tree.specs.Tree.{map_tree}
use Rattle.gf_tree.specs.Description.{SetKey}
use Rattle.gf_tree.specs.Game.{Game, set_at, outcome_at}
use Rattle.gf_tree.specs.Renumbering.{renumbered_node, renumbered_set, Renumbering, IsRenumbering}
use Rattle.gf_tree.specs.Renumbering.{HasSet, HasOutcome}

-- Title, comment and players are equal. The tree of h is that of g, node by node, with the new
-- numbers in place of the old. A set of g has the description of the set of h with its new number,
-- and so has an outcome.
pub record CarriesParts (r : Renumbering) (g h : Game) : Type 0 where
  pub renumbering : IsRenumbering g r
  pub title : g.title ≡ h.title
  pub comment : g.comment ≡ h.comment
  pub players : g.players ≡ h.players
  pub tree : map_tree (renumbered_node r) g.tree ≡ h.tree
  pub sets : (key : SetKey) → HasSet g key.player key.number
      → set_at g key ≡ set_at h (renumbered_set r key)
  pub outcomes : (number : ℕ) → HasOutcome g number
      → outcome_at g number ≡ outcome_at h (r.outcome number)
