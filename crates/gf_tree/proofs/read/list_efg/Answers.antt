use Rattle.gf_tree.proofs.Common.{rules}
use Rattle.gf_tree.proofs.lemmas.games.TreesOnce.{spells_one_game}
use Rattle.gf_tree.proofs.lemmas.reader.Steps.{refused_only}
use Rattle.gf_tree.proofs.lemmas.reader.ToldGames.{refused_for_memory}
use Rattle.gf_tree.proofs.read.list_efg.Goals as goal

pub returns-in_err-reader-clause-only : goal.returns-in_err-reader-clause-only
returns-in_err-reader-clause-only c = λ g spells.
    refused_only c.in_err-reader.field-0.0 g c.from_residual.result (search rules)
    (refused_for_memory c.in_err-reader.ensures g spells)

pub returns-clause-only : goal.returns-clause-only
returns-clause-only c = λ g spells. spells_one_game c.args.input.now _ g
    (c.into_listed_game.ensures c.args.input.now c.in_ok-reader.ensures) spells
