-- What the machine of the reader answers to tokens regardless of their places, and the game of what
-- was read.
use Rattle.std.specs.Prelude.{List, Result}
use Rattle.gf_token.specs.Token.{Token}
use Rattle.gf_token.specs.declared.fault.Why.{Why}
use Rattle.gf_token.specs.Offered as any_format
use Rattle.gf_tree.specs.Game.{Game}
use Rattle.gf_tree.specs.inner.GameCode.{no_node}
use Rattle.gf_tree.specs.Grown.{grow, root}
use Rattle.gf_tree.specs.inner.Machine.{Content, Position, at, at_end, next}

-- the answer to the tokens to come, whatever their places
abbrev pub run_tokens : Position → Content → List Token → Result Content Why
run_tokens q c ts = any_format.run next at_end (at q c) ts

-- the game of what was read
abbrev pub game_in : Content → Game
game_in c = record {
  title = c.title;
  comment = c.comment;
  players = c.players;
  tree = root no_node (grow c.nodes);
  sets = c.sets;
  outcomes = c.outcomes;
}
