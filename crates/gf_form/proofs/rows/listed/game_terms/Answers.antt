use Rattle.gf_form.proofs.Common.{IfOk-weaker, length-map, label_of, length, sym, ◌∙◌, ◌≡◌, ap}
use Rattle.gf_form.proofs.lemmas.rows.PayingTerms.{listed_sums}
use Rattle.gf_form.proofs.rows.listed.game_terms.Goals as goal

pub returns-clause-listed : goal.returns-clause-listed
returns-clause-listed c =
    let players = c.players-players.result.now in
    let as_many : length players ≡ length c.args.game.now.players =
    sym (length-map players label_of) ∙ ap length c.players-players.ensures.names in
    IfOk-weaker c.listed.result _ _
    (λ terms told. listed_sums _ _ _ _ _ c.in_ok-nodes.ensures.shares
    (rw (as_many, c.deref.ensures.value) at told))
    c.listed.ensures.listed
