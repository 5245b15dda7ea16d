use Rattle.gf_nfg.proofs.Common.{rules, at, with_count, BeforeList, Counts, content_in}
use Rattle.gf_nfg.proofs.lemmas.places.Judged.{lacks_memory}
use Rattle.gf_nfg.proofs.reader.Reader.settle.Goals as goal

pub returns-in_default-push-clause-counts : goal.returns-in_default-push-clause-counts
returns-in_default-push-clause-counts c = λ due.
    lacks_memory c.requires.place c.at-in_default-push.ensures
    (at (Counts due) (with_count (content_in c.args.self.now.heading) c.args.strategies))
    (search rules)

pub returns-in_default-push-clause-lists : goal.returns-in_default-push-clause-lists
returns-in_default-push-clause-lists c = λ due.
    lacks_memory c.requires.place c.at-in_default-push.ensures
    (at (BeforeList due) (with_count (content_in c.args.self.now.heading) c.args.strategies))
    (search rules)
