use Rattle.gf_token.proofs.Spelled as lemmas

pub returns : Rattle.gf_token.proofs.laws.spelled_once.Goals.returns
returns c = lemmas.spelled_once
