use Rattle.std.proofs.Common.{ℕ, List, refl, subst, sym}
use Rattle.gf_calls.specs.Handed.{IsHandedOut}
use Rattle.gf_calls.specs.Written.{written}
use Rattle.gf_calls.proofs.canonising.write_canonical.Goals as goal

pub returns-in-Ok : goal.returns-in-Ok
returns-in-Ok c = rw (sym c.names_by.ensures, c.in-Some.is)
    (written c.in-Ok.text.items c.in-Ok.ensures.text
    (subst (λ (text : List ℕ). IsHandedOut text c.args.out.now c.hand_out.new.out
    c.hand_out.new.needed c.hand_out.result) c.deref.ensures.value c.hand_out.ensures)
    refl)
