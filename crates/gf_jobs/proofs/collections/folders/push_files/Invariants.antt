use Rattle.gf_jobs.proofs.Walked.{LeadsOn}
use Rattle.gf_jobs.proofs.collections.folders.push_files.Given as goal

abbrev pub invariant-loop-turn : goal.invariant-loop-turn
invariant-loop-turn g l = LeadsOn g.I.Inputs.opener l.inputs l.repeats l.fn.path l.fn.so_far.files
    l.fn.files.items l.is_named l.waiting.items l.so_far l.files.items l.has_games
