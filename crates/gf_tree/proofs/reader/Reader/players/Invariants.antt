use Rattle.gf_tree.proofs.Common.{◌≡◌, length, BeforePlayers, InPlayers, answer}
use Rattle.gf_tree.specs.inner.ReaderState.{ReadsHeading}
use Rattle.gf_tree.proofs.reader.Reader.players.Given as goal

abbrev pub invariant-loop-player : goal.invariant-loop-player
invariant-loop-player l = record {
  goes : answer BeforePlayers l.fn.self ≡ answer InPlayers l.self;
  read : ReadsHeading l.fn.self l.self;
}

abbrev pub decreases-loop-player : goal.decreases-loop-player
decreases-loop-player l = length l.self.tokens.ahead
