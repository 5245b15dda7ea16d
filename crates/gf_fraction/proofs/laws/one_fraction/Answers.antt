use Rattle.gf_fraction.proofs.LowestTerms.{one_fraction}

pub returns : Rattle.gf_fraction.proofs.laws.one_fraction.Goals.returns
returns c = one_fraction
