use Rattle.gf_nfg.proofs.Common.{arith}
use Rattle.gf_token.proofs.Offered.{index_read}
use Rattle.gf_nfg.proofs.lemmas.places.Judged.{lacks_memory}
use Rattle.gf_nfg.proofs.reader.body.number.Goals as goal

pub returns-in_default-number-clause-told : goal.returns-in_default-number-clause-told
returns-in_default-number-clause-told g c = grind (arith, index_read, lacks_memory)
