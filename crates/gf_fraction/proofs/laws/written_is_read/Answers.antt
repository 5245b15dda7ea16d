use Rattle.gf_fraction.proofs.ReadingBack.{written_is_read}

pub returns : Rattle.gf_fraction.proofs.laws.written_is_read.Goals.returns
returns c = written_is_read
