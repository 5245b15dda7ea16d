-- The parts of the text of a game, for the functions that append them.
use Rattle.std.specs.Prelude.{ℕ, List, [], ◌≡◌, ◌+◌, ◌≤◌, ◌∷◌, ◌++◌, map, codes, length, take}
use Rattle.std.specs.List.{flat_map}
use Rattle.gf_nfg.specs.TableText.{spaced, list_text, quoted, lines_text}
use Rattle.gf_tree.specs.FileTree.{FileNode}
use Rattle.gf_tree.specs.Told.{Heading, Told}
use Rattle.gf_canon.specs.GameText.{node_text}
use Rattle.gf_canon.specs.inner.NamedBy.{heading_by, node_by}
use Rattle.gf_token.specs.declared.names.Names.{Names}

-- each followed by a space
abbrev pub spaced_out : List (List ℕ) → List ℕ
spaced_out items = flat_map (λ item. item ++ 32 ∷ []) items

-- the format, the title and the players
abbrev pub first_line : Heading → List ℕ
first_line h = spaced (codes "EFG" ∷ codes "2" ∷ codes "R" ∷ quoted h.title
    ∷ list_text (map quoted h.players) ∷ [])

-- the lines before the nodes
abbrev pub heading_text : Heading → List ℕ
heading_text h = lines_text (first_line h ∷ quoted h.comment ∷ [] ∷ [])

-- a node's line
abbrev pub node_line : FileNode → List ℕ
node_line n = node_text n ++ 10 ∷ []

-- a text ends at this place of a vector, and as many bytes as this are behind it
abbrev pub EndsAt : List ℕ → ℕ → ℕ → List ℕ → Type 0
EndsAt items at room text = (take at items ≡ text) × (at + room ≤ length items)

-- the lines of what was told, as far as names count
abbrev pub told_text : Names → Heading → List Told → List ℕ
told_text names heading told = heading_text (heading_by names heading)
    ++ flat_map (λ t. node_line (node_by names t.node)) told
