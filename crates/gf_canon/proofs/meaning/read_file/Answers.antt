use Rattle.gf_canon.proofs.Common.{arith}
use Rattle.gf_canon.proofs.lemmas.files.Refused.{refused_game, refused_table}
use Rattle.gf_canon.proofs.meaning.read_file.Goals as goal

pub returns-in_err-read_efg-in-Tree-clause-refused :
    goal.returns-in_err-read_efg-in-Tree-clause-refused
returns-in_err-read_efg-in-Tree-clause-refused c = grind (arith, refused_game)

pub returns-in_err-read_nfg-in-Strategic-clause-refused :
    goal.returns-in_err-read_nfg-in-Strategic-clause-refused
returns-in_err-read_nfg-in-Strategic-clause-refused c = grind (arith, refused_table)
