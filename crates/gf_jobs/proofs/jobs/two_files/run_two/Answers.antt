use Rattle.gf_jobs.proofs.jobs.two_files.run_two.Goals as goal

pub returns-then-map : goal.returns-then-map
returns-then-map g c = rw c.if-map.true c.run_same_map.ensures

pub returns-in-Kept : goal.returns-in-Kept
returns-in-Kept g c = rw (c.if-map.false, c.in-Kept.is) c.run_same.ensures

pub returns-in-Aside : goal.returns-in-Aside
returns-in-Aside g c = rw c.if-map.false c.run_same_by.ensures
