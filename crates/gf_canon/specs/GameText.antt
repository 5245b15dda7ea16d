-- The text of a game.
use Rattle.std.specs.Prelude.{ℕ, zero, suc, List, [], ◌∷◌, ◌++◌, map}
use Rattle.std.specs.Prelude.{codes, decimal, Option, Some, None}
use Rattle.std.specs.List.{flat_map}
use Rattle.std.specs.Option.{option_to_list}
use Rattle.gf_fraction.specs.NumberText.{number_text}
use Rattle.gf_nfg.specs.TableText.{spaced, list_text, quoted, lines_text}
use Rattle.gf_tree.specs.Description.{Action, SetKey, InformationSet, Outcome}
use Rattle.gf_tree.specs.FileTree.{Use, FileNode}
use Rattle.gf_tree.specs.Game.{Game}
use Rattle.gf_tree.specs.FileNodes.{file_nodes}

-- label, and the probability of chance taking it
abbrev pub action_fields : Action → List (List ℕ)
action_fields a = quoted a.label ∷ map number_text (option_to_list a.probability)

-- name, and the actions in braces
abbrev pub set_fields : InformationSet → List (List ℕ)
set_fields set = quoted set.name ∷ list_text (flat_map action_fields set.actions) ∷ []

-- name, and the payoffs in braces
abbrev pub outcome_fields : Outcome → List (List ℕ)
outcome_fields outcome = quoted outcome.name ∷ list_text (map number_text outcome.payoffs) ∷ []

-- number, and the description if there is one
abbrev pub described_fields : {D : Type 0} → (D → List (List ℕ)) → ℕ → Option D → List (List ℕ)
described_fields fields number description =
    decimal number ∷ flat_map fields (option_to_list description)

-- chance moves at `c`, and another player at `p`, by their number
abbrev pub mover_fields : List ℕ → ℕ → List (List ℕ)
mover_fields name zero = codes "c" ∷ quoted name ∷ []
mover_fields name (suc player) = codes "p" ∷ quoted name ∷ decimal (suc player) ∷ []

-- nobody moves at `t`
abbrev pub step_fields : List ℕ → Option (Use SetKey InformationSet) → List (List ℕ)
step_fields name None = codes "t" ∷ quoted name ∷ []
step_fields name (Some set) =
    mover_fields name set.key.player ++ described_fields set_fields set.key.number set.description

-- 0 is the null outcome
abbrev pub result_fields : Option (Use ℕ Outcome) → List (List ℕ)
result_fields None = codes "0" ∷ []
result_fields (Some outcome) = described_fields outcome_fields outcome.key outcome.description

abbrev pub node_text : FileNode → List ℕ
node_text n = spaced (step_fields n.name n.set ++ result_fields n.outcome)

-- format, title and players; the comment; an empty line; the nodes in prefix order
abbrev pub game_text : Game → List ℕ
game_text g = lines_text
    (spaced (codes "EFG" ∷ codes "2" ∷ codes "R" ∷ quoted g.title ∷ list_text (map quoted g.players)
    ∷ [])
    ∷ quoted g.comment
    ∷ []
    ∷ map node_text (file_nodes g))
