use Rattle.gf_tree.proofs.Common.{◌≡◌, label_of, actions_of, set_of, set_with, content_of}
use Rattle.gf_tree.proofs.Common.{slice_get}
use Rattle.gf_tree.proofs.lemmas.reader.Steps.{set_known_again}
use Rattle.gf_tree.proofs.lemmas.stores.FoundKeys.{set_in_parts}
use Rattle.gf_tree.proofs.reader.Reader.described_set.Goals as goal

pub returns-clause-machine : goal.returns-clause-machine
returns-clause-machine c = λ node.
    let found = c.in-Some.ensures.known in
    let set = set_with (label_of c.name-name.result) (actions_of c.actions-actions.result.now) in
    let is : found.set ≡ set = cc (
      found.stands,
      set_in_parts (slice_get c.args.self.now.sets.known c.in-Some.place) _ _ c.name-name.ensures
          c.actions-actions.ensures,
    ) in
    set_known_again (content_of c.args.self.now) node (set_of c.args.player c.args.number)
    c.in-Some.place c.args.self.now.tokens c.set_again.new.tokens found
    (rw is (c.in_ok-set_again.ensures.machine (content_of c.args.self.now) node _))
