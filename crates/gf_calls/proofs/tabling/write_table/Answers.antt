use Rattle.std.proofs.Common.{sym}
use Rattle.gf_calls.proofs.tabling.write_table.Goals as goal

pub returns-in-Ok : goal.returns-in-Ok
returns-in-Ok c = rw (sym c.strategies_by.ensures, c.in-Some.is)
    (c.write_meaning.ensures c.args.input.now c.args.fault.now c.in-Ok.ensures.spelled)
