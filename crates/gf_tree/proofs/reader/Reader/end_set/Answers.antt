use Rattle.gf_tree.proofs.Common.{label_of, content_of, Reader, ap, refl}
use Rattle.gf_tree.proofs.lemmas.reader.Steps.{set_end, taken, lacks_memory}
use Rattle.gf_tree.proofs.reader.Reader.end_set.Goals as goal

pub returns-in-Ok-clause-machine : goal.returns-in-Ok-clause-machine
returns-in-Ok-clause-machine c = λ node.
    set_end (content_of c.args.self.now) (content_of c.keep_set.new.self) node c.args.player
    c.args.number (label_of c.args.name) c.args.self.now.sets.pending c.args.sum _ _
    c.args.self.now.tokens c.closing.new.self c.keep_set.new.self.tokens c.pending.result.now _
    (taken c.in-Some.ensures.next c.in-Some.ensures.input) c.if-is_empty.ensures c.pending.ensures
    c.if-not-adds_up.ensures c.in-Ok.ensures.content (c.in-Ok.ensures.begins node)
    (ap (λ (r : Reader). r.tokens) c.in-Ok.ensures.kept)

pub returns-in-Err-clause-machine : goal.returns-in-Err-clause-machine
returns-in-Err-clause-machine c = λ node.
    lacks_memory c.in-Some.ensures.place c.at-in-Err.ensures _ _
    (set_end (content_of c.args.self.now) _ node c.args.player
    c.args.number (label_of c.args.name) c.args.self.now.sets.pending c.args.sum _ _
    c.args.self.now.tokens c.closing.new.self c.closing.new.self c.pending.result.now _
    (taken c.in-Some.ensures.next c.in-Some.ensures.input)
    c.if-is_empty.ensures c.pending.ensures c.if-not-adds_up.ensures refl refl refl)
