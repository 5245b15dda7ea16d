use Rattle.gf_tree.proofs.Common.{rules, label_of, with_player, InPlayers, content_of}
use Rattle.gf_tree.proofs.lemmas.reader.Steps.{lacks_memory}
use Rattle.gf_tree.proofs.reader.Reader.players.Goals as goal

pub returns-in_default-push-clause-machine : goal.returns-in_default-push-clause-machine
returns-in_default-push-clause-machine c =
    lacks_memory c.in-Some-text.ensures.place c.at.ensures InPlayers
    (with_player (content_of c.loop-player.self) (label_of c.in-Some-text.player.label))
    (search rules)
