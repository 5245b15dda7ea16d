use Rattle.std.proofs.Common.{◌≡◌, ◌∙◌, arith, ap, length, refl, sym}
use Rattle.std.proofs.lemmas.List.{length-map}
use Rattle.gf_token.specs.Label.{label_of}
use Rattle.gf_canon.specs.GameFile.GameFile.{extensive}
use Rattle.gf_calls.specs.Tabled.{too_many_players, without_form}
use Rattle.gf_calls.proofs.TableAnswers.{made_answers}
use Rattle.gf_calls.proofs.tabling.write_form.Goals as goal

pub returns-then-players-gt-MOST_PLAYERS : goal.returns-then-players-gt-MOST_PLAYERS
returns-then-players-gt-MOST_PLAYERS c bytes numbers spelled =
    let counted : length c.players.result.now ≡ length c.args.game.now.players =
    sym (length-map c.players.result.now label_of) ∙ ap length c.players.ensures.names in
    let many = c.if-players-gt-MOST_PLAYERS.true in
    too_many_players c.args.game.now spelled (λ few. omega (arith, counted, many, few)) refl refl

pub returns-in-Ok : goal.returns-in-Ok
returns-in-Ok c bytes numbers spelled =
    made_answers c.args.strategies bytes (extensive c.args.game.now) c.in-Ok.table _ _ _ spelled
    c.in-Ok.ensures.form c.write_text.ensures refl

pub returns-in-Err : goal.returns-in-Err
returns-in-Err c bytes numbers spelled =
    without_form c.args.game.now spelled c.in-Err.fault c.in-Err.ensures.without
    c.report_form.ensures.status (rw c.report_form.ensures.profile refl)
