use Rattle.std.proofs.Common.{refl, sym}
use Rattle.gf_calls.specs.Compared.{compared}
use Rattle.gf_calls.proofs.comparing.compare.Goals as goal

pub returns-in-Ok : goal.returns-in-Ok
returns-in-Ok c = rw (sym c.names_by.ensures, c.in-Some.is)
    (compared c.in-Ok.same c.same_status.ensures
    (let (x, first) = c.in-Ok.ensures.accepted.0 in
    let (y, second) = c.in-Ok.ensures.accepted.1 in
    (x, y, first, second, c.in-Ok.ensures.same x y first second)) refl)
