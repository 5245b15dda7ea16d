use Rattle.gf_nfg.proofs.Common.{◌≡◌, length, BeforePlayers, InPlayers, answer}
use Rattle.gf_nfg.proofs.reader.Reader.players.Given as goal

abbrev pub invariant-loop-player : goal.invariant-loop-player
invariant-loop-player l =
    (answer BeforePlayers l.fn.self ≡ answer InPlayers l.self)
    × (l.self.heading.counts ≡ l.fn.self.heading.counts)

abbrev pub decreases-loop-player : goal.decreases-loop-player
decreases-loop-player l = length l.self.tokens.ahead
