use Rattle.gf_nfg.proofs.Common.{rules, [], ◌∷◌, label_of, at, with_players, InPlayers, content_in}
use Rattle.gf_nfg.proofs.lemmas.places.Judged.{lacks_memory}
use Rattle.gf_nfg.proofs.lemmas.runs.ReaderSteps.{goes_back}
use Rattle.gf_nfg.proofs.reader.Reader.players.Goals as goal

pub returns-in_err-keep-clause-machine : goal.returns-in_err-keep-clause-machine
returns-in_err-keep-clause-machine c =
    goes_back {r = c.from_residual.result} _ (search rules)
    (lacks_memory c.in-Some-text.ensures.place c.in_err-keep.ensures.0
    (at InPlayers (with_players (content_in c.loop-player.self.heading)
    (label_of c.in-Some-text.player.label ∷ [])))
    (search rules))
