use Rattle.gf_nfg.proofs.Common.{rules, ◌+◌, [], ◌∷◌, label_of, at, with_labels, InList, content_in}
use Rattle.gf_nfg.proofs.lemmas.places.Judged.{lacks_memory}
use Rattle.gf_nfg.proofs.lemmas.runs.ReaderSteps.{goes_back}
use Rattle.gf_nfg.proofs.reader.Reader.list.Goals as goal

pub returns-in_err-keep-clause-machine : goal.returns-in_err-keep-clause-machine
returns-in_err-keep-clause-machine c = λ left.
    goes_back {r = c.from_residual.result} _ (search rules)
    (lacks_memory c.in-Some.ensures.place c.in_err-keep.ensures.0
    (at (InList left (c.loop-strategy.strategies + 1)) (with_labels
    (content_in c.loop-strategy.self.heading) (label_of c.in-Some.strategy.label ∷ [])))
    (search rules))
