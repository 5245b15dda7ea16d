use Rattle.gf_fraction.proofs.ReadingBack.{one_answer}

pub returns : Rattle.gf_fraction.proofs.laws.one_answer.Goals.returns
returns c = one_answer
