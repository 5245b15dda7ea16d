use Rattle.gf_tree.proofs.Common.{set_with, content_of}
use Rattle.gf_tree.proofs.lemmas.reader.Steps.{labelled, lacks_memory}
use Rattle.gf_tree.proofs.reader.Reader.action.Goals as goal

pub returns-in-Err-clause-machine : goal.returns-in-Err-clause-machine
returns-in-Err-clause-machine c = λ node number name.
    lacks_memory c.requires.place c.at.ensures _ _
    (labelled c.args.self.now.tokens c.args.label (content_of c.args.self.now) node c.args.player
    number (set_with name c.args.self.now.sets.pending) c.args.sum c.if-player-eq0.false)
