use Rattle.gf_token.proofs.ReadingIndices.{one_index}

pub returns : Rattle.gf_token.proofs.laws.one_index.Goals.returns
returns c = one_index
