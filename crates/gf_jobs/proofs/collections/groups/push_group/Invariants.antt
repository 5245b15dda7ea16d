use Rattle.std.proofs.Common.{◌≡◌, ◌++◌, ◌∷◌, [], drop, if◌then◌else◌, map}
use Rattle.gf_jobs.specs.Duplicates.{name_lines}
use Rattle.gf_jobs.specs.Lines.{end_byte}
use Rattle.gf_jobs.proofs.collections.groups.push_group.Given as goal

abbrev pub invariant-loop-name : goal.invariant-loop-name
invariant-loop-name l =
    l.text.items ++ name_lines l.end (map (λ name. name.now) (drop l.name-index l.names))
    ≡ l.fn.text.items ++ (if l.first then [] else end_byte l.end ∷ [])
    ++ name_lines l.end (map (λ name. name.now) l.names)
