-- What the proofs of the crates above cite of these proofs, and nothing else of them.
pub use Rattle.gf_fraction.proofs.AllElements.{all_images, all_joined, all_mapped, all_weaker}
pub use Rattle.gf_fraction.proofs.AllElements.{all_lists, all_parts, all_both, all_at}
pub use Rattle.gf_fraction.proofs.Chains.{plus_across, times_right, plus_right, plus_left, ◌then◌}
pub use Rattle.gf_fraction.proofs.Chains.{back}
pub use Rattle.gf_fraction.proofs.ComputedAnswers.{number_is_computed, number_answers, number_again}
pub use Rattle.gf_fraction.proofs.ComputedAnswers.{answer_is, number_is}
pub use Rattle.gf_fraction.proofs.ComputedArithmetic.{product_is_computed, lowest_of-fraction}
pub use Rattle.gf_fraction.proofs.ComputedArithmetic.{lowest_of-value, product_of-none, sum_of-none}
pub use Rattle.gf_fraction.proofs.ComputedArithmetic.{product_of-some, sum_is_computed, sum_of-some}
pub use Rattle.gf_fraction.proofs.Divisors.{dvd_of_dvd-mul}
pub use Rattle.gf_fraction.proofs.EqualRatios.{Decides-ratio}
pub use Rattle.gf_fraction.proofs.Integers.{*ℤ-cancel_right, *-cancel_right, *ℤ_right_comm, *ℤ-one}
pub use Rattle.gf_fraction.proofs.Integers.{*ℤ_assoc, add-*ℤ}
pub use Rattle.gf_fraction.proofs.LowestTerms.{mul_pos_right, mul_pos_left, one_fraction}
pub use Rattle.gf_fraction.proofs.Products.{mul_above}
pub use Rattle.gf_fraction.proofs.Rationals.{times_above, equal_refl, plus_above, same_parts}
pub use Rattle.gf_fraction.proofs.Rationals.{times_both, times_plus, times_zero, plus_both, IsAbove}
pub use Rattle.gf_fraction.proofs.ReadingBack.{written_is_read, one_answer, same_fault}
pub use Rattle.gf_fraction.proofs.SpelledIsFound.{ascii_from_digit, digit_from_ascii}
pub use Rattle.gf_fraction.proofs.Sums.{IsLcm-from_gcd, Adding-equal, equal_parts, equal_value}
pub use Rattle.gf_fraction.proofs.Sums.{sum_fits}
pub use Rattle.gf_fraction.proofs.WholeNumbers.{digits_spelled, whole_fraction, part_fraction}
pub use Rattle.gf_fraction.proofs.WholeNumbers.{is_sign_of, sign_of}
