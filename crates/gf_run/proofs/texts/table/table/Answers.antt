use Rattle.std.proofs.Common.{ℕ, List, ◌≤◌, length, arith}
use Rattle.std.proofs.lemmas.List.{length-append, length-map}
use Rattle.gf_token.proofs.Offered.{few_ahead}
use Rattle.gf_tree.specs.Game.{Game}
use Rattle.gf_tree.specs.GameOf.{SpellsGame}
use Rattle.gf_run.proofs.texts.table.table.Goals as goal

-- each player's name is a token
players_within : (bytes : List ℕ) (g : Game) → SpellsGame bytes g → length g.players ≤ length bytes
players_within bytes g spelled = grind (arith, few_ahead, length-append, length-map)

pub form_answer-requires : goal.form_answer-requires
form_answer-requires c = grind (arith, players_within)
