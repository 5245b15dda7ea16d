use Rattle.gf_nfg.proofs.Common.{arith, length-append}
use Rattle.gf_nfg.proofs.lemmas.texts.Lists.{label_within}
use Rattle.gf_nfg.proofs.text.lists.write_next.Goals as goal

pub returns-in_err-write_label-clause-full : goal.returns-in_err-write_label-clause-full
returns-in_err-write_label-clause-full c =
    grind (arith, length-append, label_within c.args.lists.now _ _ _ c.label.ensures)

pub returns-in_err-push-clause-full : goal.returns-in_err-push-clause-full
returns-in_err-push-clause-full c =
    grind (arith, length-append, label_within c.args.lists.now _ _ _ c.label.ensures)
