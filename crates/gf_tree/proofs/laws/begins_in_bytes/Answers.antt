use Rattle.gf_token.proofs.Offered.{begins_in_bytes}
use Rattle.gf_tree.proofs.lemmas.places.Rows.{follows}
use Rattle.gf_tree.proofs.lemmas.runs.Places.{is_reader}

pub returns : Rattle.gf_tree.proofs.laws.begins_in_bytes.Goals.returns
returns c = begins_in_bytes follows is_reader
