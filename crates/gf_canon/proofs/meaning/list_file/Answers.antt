use Rattle.gf_canon.proofs.Common.{arith}
use Rattle.gf_canon.proofs.lemmas.files.Refused.{refused_game, refused_table}
use Rattle.gf_canon.proofs.meaning.list_file.Goals as goal

pub returns-in_err-list_efg-in-Tree-clause-refused :
    goal.returns-in_err-list_efg-in-Tree-clause-refused
returns-in_err-list_efg-in-Tree-clause-refused c = grind (arith, refused_game)

pub returns-in_err-list_nfg-in-Strategic-clause-refused :
    goal.returns-in_err-list_nfg-in-Strategic-clause-refused
returns-in_err-list_nfg-in-Strategic-clause-refused c = grind (arith, refused_table)
