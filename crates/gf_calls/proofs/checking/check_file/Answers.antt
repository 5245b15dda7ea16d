use Rattle.std.proofs.Common.{refl}
use Rattle.gf_calls.specs.Checked.{right}
use Rattle.gf_calls.proofs.checking.check_file.Goals as goal

pub returns-in-Ok : goal.returns-in-Ok
returns-in-Ok c = right c.in-Ok.found refl c.in-Ok.ensures.kind c.kind_number.ensures refl
