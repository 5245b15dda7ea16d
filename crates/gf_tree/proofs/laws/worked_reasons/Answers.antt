use Rattle.gf_tree.proofs.Common.{refl}
use Rattle.std.specs.Fmt.{digits}
use Rattle.gf_fraction.specs.Offered.{gcd_within, lowest_of, number_of, sum_of}
use Rattle.gf_token.specs.Offered.{index_of, lex}
use Rattle.gf_tree.proofs.lemmas.games.Worked.{is_refused}
use Rattle.gf_tree.proofs.laws.worked_reasons.Goals as goal

pub returns-clause-no_version : goal.returns-clause-no_version
unfolding lex digits index_of number_of sum_of lowest_of gcd_within
returns-clause-no_version c = is_refused _ _ _ refl

pub returns-clause-not_a_number : goal.returns-clause-not_a_number
unfolding lex digits index_of number_of sum_of lowest_of gcd_within
returns-clause-not_a_number c = is_refused _ _ _ refl

pub returns-clause-no_denominator : goal.returns-clause-no_denominator
unfolding lex digits index_of number_of sum_of lowest_of gcd_within
returns-clause-no_denominator c = is_refused _ _ _ refl

pub returns-clause-set_zero : goal.returns-clause-set_zero
unfolding lex digits index_of number_of sum_of lowest_of gcd_within
returns-clause-set_zero c = is_refused _ _ _ refl

pub returns-clause-outcome_plus_one : goal.returns-clause-outcome_plus_one
unfolding lex digits index_of number_of sum_of lowest_of gcd_within
returns-clause-outcome_plus_one c = is_refused _ _ _ refl

pub returns-clause-second_of_one : goal.returns-clause-second_of_one
unfolding lex digits index_of number_of sum_of lowest_of gcd_within
returns-clause-second_of_one c = is_refused _ _ _ refl

pub returns-clause-no_players : goal.returns-clause-no_players
unfolding lex digits index_of number_of sum_of lowest_of gcd_within
returns-clause-no_players c = is_refused _ _ _ refl

pub returns-clause-undescribed_set : goal.returns-clause-undescribed_set
unfolding lex digits index_of number_of sum_of lowest_of gcd_within
returns-clause-undescribed_set c = is_refused _ _ _ refl

pub returns-clause-undescribed_outcome : goal.returns-clause-undescribed_outcome
unfolding lex digits index_of number_of sum_of lowest_of gcd_within
returns-clause-undescribed_outcome c = is_refused _ _ _ refl

pub returns-clause-other_only_action : goal.returns-clause-other_only_action
unfolding lex digits index_of number_of sum_of lowest_of gcd_within
returns-clause-other_only_action c = is_refused _ _ _ refl

pub returns-clause-other_action : goal.returns-clause-other_action
unfolding lex digits index_of number_of sum_of lowest_of gcd_within
returns-clause-other_action c = is_refused _ _ _ refl

pub returns-clause-action_missing : goal.returns-clause-action_missing
unfolding lex digits index_of number_of sum_of lowest_of gcd_within
returns-clause-action_missing c = is_refused _ _ _ refl

pub returns-clause-action_too_many : goal.returns-clause-action_too_many
unfolding lex digits index_of number_of sum_of lowest_of gcd_within
returns-clause-action_too_many c = is_refused _ _ _ refl

pub returns-clause-other_probability : goal.returns-clause-other_probability
unfolding lex digits index_of number_of sum_of lowest_of gcd_within
returns-clause-other_probability c = is_refused _ _ _ refl

pub returns-clause-other_name : goal.returns-clause-other_name
unfolding lex digits index_of number_of sum_of lowest_of gcd_within
returns-clause-other_name c = is_refused _ _ _ refl

pub returns-clause-other_payoff : goal.returns-clause-other_payoff
unfolding lex digits index_of number_of sum_of lowest_of gcd_within
returns-clause-other_payoff c = is_refused _ _ _ refl

pub returns-clause-negative : goal.returns-clause-negative
unfolding lex digits index_of number_of sum_of lowest_of gcd_within
returns-clause-negative c = is_refused _ _ _ refl

pub returns-clause-above_one : goal.returns-clause-above_one
unfolding lex digits index_of number_of sum_of lowest_of gcd_within
returns-clause-above_one c = is_refused _ _ _ refl

pub returns-clause-below_one : goal.returns-clause-below_one
unfolding lex digits index_of number_of sum_of lowest_of gcd_within
returns-clause-below_one c = is_refused _ _ _ refl

pub returns-clause-half_and_quarter : goal.returns-clause-half_and_quarter
unfolding lex digits index_of number_of sum_of lowest_of gcd_within
returns-clause-half_and_quarter c = is_refused _ _ _ refl

pub returns-clause-overflowing : goal.returns-clause-overflowing
unfolding lex digits index_of number_of sum_of lowest_of gcd_within
returns-clause-overflowing c = is_refused _ _ _ refl

pub returns-clause-no_lottery : goal.returns-clause-no_lottery
unfolding lex digits index_of number_of sum_of lowest_of gcd_within
returns-clause-no_lottery c = is_refused _ _ _ refl

pub returns-clause-no_action : goal.returns-clause-no_action
unfolding lex digits index_of number_of sum_of lowest_of gcd_within
returns-clause-no_action c = is_refused _ _ _ refl
