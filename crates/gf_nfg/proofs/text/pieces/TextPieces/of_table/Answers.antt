use Rattle.gf_nfg.proofs.Common.{append_assoc, arith}
use Rattle.gf_nfg.proofs.lemmas.texts.Lists.{heading_is}
use Rattle.gf_nfg.proofs.lemmas.texts.PayoffLines.{text_of_rows}
use Rattle.gf_nfg.proofs.text.pieces.TextPieces.of_table.Goals as goal

pub returns-clause-rest : goal.returns-clause-rest
returns-clause-rest c =
    let is = heading_is c.frame.result.now in
    let whole = text_of_rows c.args.t _ _ c.frame.ensures.frame c.into_parts-frame.ensures.rows in
    grind (arith, append_assoc)
