-- What a step may say.
use Rattle.std.specs.Prelude.{Bool, true, nat_lt}
use Rattle.gf_tree.specs.declared.game.node.Step.{Step}
use Rattle.gf_tree.specs.declared.game.node.Step.TheVariants.{Chance, Personal, Terminal}

-- a player who moves is counted from 1; chance is not one of them
abbrev pub is_step : Step → Bool
is_step (Chance set) = true
is_step (Personal player set) = nat_lt 0 player
is_step Terminal = true
