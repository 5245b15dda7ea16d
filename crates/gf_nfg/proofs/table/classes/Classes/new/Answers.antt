use Rattle.gf_nfg.proofs.Common.{Ok, arith, refl, subst, sym, LeadBack}
use Rattle.std.proofs.lemmas.Iterator.{YieldsList-from_range, items_from_collect}
use Rattle.std.specs.declared.alloc.AllocError.{AllocError}
use Rattle.gf_nfg.proofs.lemmas.tables.Classes.{back_begun}
use Rattle.gf_nfg.proofs.table.classes.Classes.new.Goals as goal

pub invariant_of-result : goal.invariant_of-result
invariant_of-result c =
    let numbered = items_from_collect {E = AllocError} (Ok c.in_ok-parents.parents)
    c.in_ok-parents.ensures.ran
    (YieldsList-from_range 0 c.args.places c.args.places refl (omega arith)) in
    subst LeadBack (sym numbered) (back_begun c.args.places)
