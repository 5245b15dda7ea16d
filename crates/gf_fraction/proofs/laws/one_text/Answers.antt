use Rattle.gf_fraction.proofs.ReadingBack.{one_text}

pub returns : Rattle.gf_fraction.proofs.laws.one_text.Goals.returns
returns c = one_text
