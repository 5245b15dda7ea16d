use Rattle.gf_token.proofs.Offered.{begins_in_bytes}
use Rattle.gf_nfg.proofs.lemmas.places.Led.{is_reader}
use Rattle.gf_nfg.proofs.lemmas.places.Rows.{follows}
use Rattle.gf_nfg.proofs.laws.begins_in_bytes.Goals as goal

pub returns : goal.returns
returns c = begins_in_bytes follows is_reader
