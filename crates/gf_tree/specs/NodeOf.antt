-- What a node is, as callers see it.
use Rattle.std.specs.Prelude.{ℕ, zero, suc, Option, Some, None}
use Rattle.gf_token.specs.Label.{label_of}
use Rattle.gf_tree.specs.Description.{SetKey, set_of}
use Rattle.gf_tree.specs.declared.game.node.Node.{Node}
use Rattle.gf_tree.specs.declared.game.node.Step.{Step}
use Rattle.gf_tree.specs.declared.game.node.Step.TheVariants.{Chance, Personal, Terminal}
use Rattle.gf_tree.specs.Game as game

-- the set of the step
abbrev pub set_of_step : Step → Option SetKey
set_of_step (Chance set) = Some (set_of 0 set)
set_of_step (Personal player set) = Some (set_of player set)
set_of_step Terminal = None

-- an outcome by its number; 0 is none
abbrev pub outcome_of : ℕ → Option ℕ
outcome_of zero = None
outcome_of (suc n) = Some (suc n)

abbrev pub node_of : Node → game.Node
node_of n =
    record { name = label_of n.name; set = set_of_step n.step; outcome = outcome_of n.outcome }
