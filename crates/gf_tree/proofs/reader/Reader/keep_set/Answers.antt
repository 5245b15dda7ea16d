use Rattle.gf_tree.proofs.Common.{label_of, set_of}
use Rattle.gf_tree.proofs.lemmas.reader.Steps.{kept_begun, kept_content, kept_grows}
use Rattle.gf_tree.proofs.reader.Reader.keep_set.Goals as goal

pub returns-clause-content : goal.returns-clause-content
returns-clause-content c =
    kept_content c.args.self.now _ (set_of c.args.player c.args.number) (label_of c.args.name)
    c.end.result c.end.ensures.ok

pub returns-clause-begins : goal.returns-clause-begins
returns-clause-begins c = λ node.
    kept_begun c.args.self.now _ (set_of c.args.player c.args.number) (label_of c.args.name) node
    c.end.result c.end.ensures.ok c.end.ensures.place

pub returns-clause-grows : goal.returns-clause-grows
returns-clause-grows c =
    kept_grows c.args.self.now _ (set_of c.args.player c.args.number) (label_of c.args.name)
    c.end.result c.end.ensures.ok
