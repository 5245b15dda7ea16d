use Rattle.gf_canon.proofs.Common.{◌≡◌, ◌++◌, drop, Keeps}
use Rattle.gf_canon.proofs.lemmas.texts.Fields.{labels_left}
use Rattle.gf_canon.proofs.text.braces.write_labels.Given as goal

abbrev pub invariant-loop-label : goal.invariant-loop-label
invariant-loop-label l =
    (l.out.items ++ labels_left (drop l.label-index l.labels)
    ≡ l.initial.out.items ++ labels_left l.labels)
    × Keeps l.fn.out.items l.out.items
