-- What the proofs of the crates above cite of these proofs, and nothing else of them.
pub use Rattle.gf_token.proofs.Following.{carried, fails_back, goes_back, refused_why}
pub use Rattle.gf_token.proofs.Grammar.{each_both, each_group}
pub use Rattle.gf_token.proofs.LaidOut.{AreSaid, both, each_field, empty, fields, label, labels}
pub use Rattle.gf_token.proofs.LaidOut.{line, lines, list, none, one, Says, says_list, says_word}
pub use Rattle.gf_token.proofs.LaidOut.{Tells, word}
pub use Rattle.gf_token.proofs.Lowest.{IsSound}
pub use Rattle.gf_token.proofs.OneAnswer.{one_answer}
pub use Rattle.gf_token.proofs.Places.{no_file, one_offending_place, one_span, same_span, tokens_on}
pub use Rattle.gf_token.proofs.Reading.{accepted, begins, follows, IsReader, leads, not_accepted}
pub use Rattle.gf_token.proofs.ReadingIndices.{count_again, count_is, index_again, index_answers}
pub use Rattle.gf_token.proofs.ReadingIndices.{index_is, index_read}
pub use Rattle.gf_token.proofs.RowAnswers.{AnswersBy, letter_by, no_index, no_number, no_payoff}
pub use Rattle.gf_token.proofs.RowAnswers.{no_positive, one_some, other_word, same_bytes, test_by}
pub use Rattle.gf_token.proofs.RowAnswers.{word_by}
pub use Rattle.gf_token.proofs.Rows.{AnswersEnd, begins_in_bytes, Follows, obeys, one_place}
pub use Rattle.gf_token.proofs.Rows.{one_reason, reason, some_place, stands, walks}
pub use Rattle.gf_token.proofs.Spelled.{found, same_tokens, spelled_once}
pub use Rattle.gf_token.proofs.SpelledNumbers.{decimal_is_index, index_spelled, number_spelled}
pub use Rattle.gf_token.proofs.SpelledTokens.{all_spelled, AllSpelled, braced_spelled}
pub use Rattle.gf_token.proofs.SpelledTokens.{comment_spelled}
pub use Rattle.gf_token.proofs.TokensAhead.{all_in_order, few_ahead}
pub use Rattle.gf_token.proofs.Walks.{GoesThrough, kept, kept_by_spelled, passed, passed_before}
pub use Rattle.gf_token.proofs.Walks.{reads, run_after, run_split, run_whole, stopped, StopsAt}
pub use Rattle.gf_token.proofs.Walks.{then_ok, walk_more, walk_on, walk_split}
