use Rattle.gf_canon.proofs.Common.{arith, at_drop_all, map, quoted, label_of}
use Rattle.gf_canon.proofs.lemmas.texts.Fields.{labels_left, list_closed}
use Rattle.gf_canon.proofs.text.braces.write_labels.Goals as goal

pub returns-clause-text : goal.returns-clause-text
returns-clause-text c =
    list_closed (map quoted (map label_of c.args.labels.now)) _ _ _ _ _
    c.in_ok-extend_from_slice.ensures.items c.in_ok-push-2.ensures.items
    (at_drop_all labels_left c.args.labels.now c.loop-label.label-index (omega arith))
    c.loop-label.invariant.0
