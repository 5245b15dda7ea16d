use Rattle.gf_tree.proofs.Common.{refl, NodeDue, content_of}
use Rattle.gf_tree.proofs.lemmas.reader.Steps.{lacks_memory}

pub returns-in_default : Rattle.gf_tree.proofs.reader.Reader.tell_heading.Goals.returns-in_default
returns-in_default g c =
    lacks_memory c.requires.place c.at.ensures NodeDue (content_of c.args.self.now) refl
