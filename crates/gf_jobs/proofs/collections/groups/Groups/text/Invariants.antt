use Rattle.gf_jobs.proofs.GroupsText.{IsOn}
use Rattle.gf_jobs.proofs.collections.groups.Groups.text.Given as goal

abbrev pub invariant-loop-group : goal.invariant-loop-group
invariant-loop-group l = IsOn l.end l.self.names l.group-index l.text.items l.apart
