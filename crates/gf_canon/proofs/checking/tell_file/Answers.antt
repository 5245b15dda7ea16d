use Rattle.gf_canon.proofs.Common.{arith}
use Rattle.gf_canon.proofs.lemmas.files.Refused.{refused_game, refused_table}
use Rattle.gf_canon.proofs.checking.tell_file.Goals as goal

pub returns-in_err-tell_efg-in-Tree-clause-refused :
    goal.returns-in_err-tell_efg-in-Tree-clause-refused
returns-in_err-tell_efg-in-Tree-clause-refused g c = grind (arith, refused_game)

pub returns-in_err-check_nfg-in-Strategic-clause-refused :
    goal.returns-in_err-check_nfg-in-Strategic-clause-refused
returns-in_err-check_nfg-in-Strategic-clause-refused g c = grind (arith, refused_table)
