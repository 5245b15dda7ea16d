use Rattle.gf_nfg.proofs.Common.{arith}
use Rattle.gf_token.proofs.Offered.{index_answers, index_read}
use Rattle.gf_nfg.proofs.reader.Reader.count.Goals as goal

pub returns-in_default-count_of : goal.returns-in_default-count_of
returns-in_default-count_of c = grind (arith, index_answers)

pub returns-clause-first : goal.returns-clause-first
returns-clause-first c = grind (arith, index_read)

pub returns-clause-later : goal.returns-clause-later
returns-clause-later c = grind (arith, index_read)
