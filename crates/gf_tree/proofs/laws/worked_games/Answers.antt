use Rattle.gf_tree.proofs.Common.{refl}
use Rattle.std.specs.Fmt.{digits}
use Rattle.gf_fraction.specs.Offered.{gcd_within, lowest_of, number_of, sum_of}
use Rattle.gf_token.specs.Offered.{index_of, lex}
use Rattle.gf_tree.specs.WorkedTrees.{bonus, bonus_file, forgetful, forgetful_file, noted}
use Rattle.gf_tree.specs.WorkedTrees.{noted_file}
use Rattle.gf_tree.proofs.lemmas.games.Worked.{meant}
use Rattle.gf_tree.proofs.laws.worked_games.Goals as goal

pub returns-clause-bonus : goal.returns-clause-bonus
unfolding lex digits index_of number_of sum_of lowest_of gcd_within
returns-clause-bonus c = meant bonus_file bonus refl

pub returns-clause-forgetful : goal.returns-clause-forgetful
unfolding lex digits index_of number_of sum_of lowest_of gcd_within
returns-clause-forgetful c = meant forgetful_file forgetful refl

pub returns-clause-noted : goal.returns-clause-noted
unfolding lex digits index_of number_of sum_of lowest_of gcd_within
returns-clause-noted c = meant noted_file noted refl
