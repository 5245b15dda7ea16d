use Rattle.gf_tree.proofs.Common.{label_of}
use Rattle.gf_tree.proofs.lemmas.reader.Steps.{kept_outcome_content, kept_outcome_grows}
use Rattle.gf_tree.proofs.lemmas.reader.Steps.{kept_outcome_key}
use Rattle.gf_tree.proofs.reader.Reader.keep_outcome.Goals as goal

pub returns-clause-content : goal.returns-clause-content
returns-clause-content c =
    kept_outcome_content c.args.self.now _ c.args.number (label_of c.args.name) c.end.result
    c.end.ensures.ok

pub returns-clause-key : goal.returns-clause-key
returns-clause-key c =
    kept_outcome_key c.args.self.now _ c.args.number (label_of c.args.name) c.end.result
    c.end.ensures.ok c.end.ensures.place

pub returns-clause-grows : goal.returns-clause-grows
returns-clause-grows c =
    kept_outcome_grows c.args.self.now _ c.args.number (label_of c.args.name) c.end.result
    c.end.ensures.ok
