use Rattle.std.proofs.Common.{map, take}
use Rattle.gf_jobs.specs.LedTo.{AreLedTo}
use Rattle.gf_jobs.proofs.collections.paths.files_led_to.Given as goal

abbrev pub invariant-loop-path : goal.invariant-loop-path
invariant-loop-path g l = AreLedTo g.I.Inputs.opener l.inputs l.repeats
    (map g.P.AsSlice.items (take l.path-index l.paths)) l.so_far.files l.files.items
    l.without_games.items
