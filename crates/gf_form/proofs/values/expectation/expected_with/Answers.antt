use Rattle.gf_form.proofs.lemmas.values.BottomUp.{have_values}
use Rattle.gf_form.proofs.lemmas.values.Walks.{root_there}
use Rattle.gf_form.proofs.values.expectation.expected_with.Goals as goal

pub returns-clause-values : goal.returns-clause-values
returns-clause-values c =
    let root = root_there c.args.game.now c.args.nodes.now c.requires.nodes in
    have_values _ c.players-players.ensures.is_game c.players-players.ensures.spellable _ _
    (λ k less. rw root.1 at (c.in_ok-row.ensures.values k))
