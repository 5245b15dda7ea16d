use Rattle.gf_token.proofs.ReadingIndices.{no_index}

pub returns-in-Err : Rattle.gf_token.proofs.index.index_in.Goals.returns-in-Err
returns-in-Err c = no_index c.args.text.now c.in-Err.field-0 c.in-Err.ensures
