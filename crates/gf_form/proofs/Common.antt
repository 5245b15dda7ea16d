-- The names that many proofs of this crate cite, passed on from one place. Declares nothing.
pub use Rattle.gf_form.specs.BottomUp.{IsValue, IsChanceValue, IsMoveValue, IsTerminalValue}
pub use Rattle.gf_form.specs.BottomUp.{IsChildValue}
pub use Rattle.gf_form.specs.Payoff.{payoff, play_probability, play_payoff, payoff_at, probability}
pub use Rattle.gf_form.specs.Payoff.{action_at}
pub use Rattle.gf_form.specs.Plays.{plays, Step, Play, from_node, is_chosen, plays_from, HasActions}
pub use Rattle.gf_form.specs.Plays.{follows, nodes_of, PartAtChance}
pub use Rattle.gf_form.specs.Reduced.{reduced_at, reduced_by, reduced_label, reduced_strategies}
pub use Rattle.gf_form.specs.Reduced.{IsReducedForm, is_own_choice, agrees, comes_to, is_relevant}
pub use Rattle.gf_form.specs.Reduced.{reduced, same_choice, AreReducedPayoffsAt, reduced_labels}
pub use Rattle.gf_form.specs.Reduced.{reduced_profiles}
pub use Rattle.gf_form.specs.Refusal.{HasValues, IsFirstWithout, OverflowsAt}
pub use Rattle.gf_form.specs.Refusal.{HasReducedValues, ReducedOverflowsAt, HasValuesWith}
pub use Rattle.gf_form.specs.StrategicForm.{ArePayoffsAt, IsFormWith, IsStrategicForm, PaysFraction}
pub use Rattle.gf_form.specs.StrategicForm.{strategy_labels, PaysFractions, ArePayoffs}
pub use Rattle.gf_form.specs.Strategies.{action_counts, players_of, strategies, choices_by}
pub use Rattle.gf_form.specs.Strategies.{full_profiles, strategies_at, all_choices, choice_at}
pub use Rattle.gf_form.specs.Strategies.{strategy_at, strategy_label, AreStrategies}
pub use Rattle.gf_form.specs.WorkedForms.{overflowing, unlikely, balancing, ending, contradicted}
pub use Rattle.gf_form.specs.declared.reduced.digits.OwnDigit.{OwnDigit}
pub use Rattle.gf_form.specs.declared.reduced.level.Level.{Level}
pub use Rattle.gf_form.specs.declared.reduced.visits.Visit.{Visit}
pub use Rattle.gf_form.specs.declared.rows.chosen.Chosen.{Chosen}
pub use Rattle.gf_form.specs.declared.rows.digits.Digit.{Digit}
pub use Rattle.gf_form.specs.declared.rows.digits.Digits.{Digits}
pub use Rattle.gf_form.specs.declared.rows.paths.Path.{Path}
pub use Rattle.gf_form.specs.declared.rows.sums.Scale.{Scale}
pub use Rattle.gf_form.specs.declared.rows.terms.Head.{Head}
pub use Rattle.gf_form.specs.declared.rows.terms.Scaled.{Scaled}
pub use Rattle.gf_form.specs.declared.rows.terms.Terms.{Terms}
pub use Rattle.gf_form.specs.declared.rows.asked.Asked.{Asked}
pub use Rattle.gf_form.specs.declared.rows.asked.Run.{Run}
pub use Rattle.gf_form.specs.declared.strategies.counts.Counts.{Counts}
pub use Rattle.gf_form.specs.inner.reduced.Firsts.{AreFirstsOf, IsPaidAt, AreFirsts}
pub use Rattle.gf_form.specs.inner.reduced.Levels.{ArePositive, IsLevel, is_left, AreOrderedFrom}
pub use Rattle.gf_form.specs.inner.reduced.Levels.{can_be_met, IsChosen, IsChosenAt, HaveBelow}
pub use Rattle.gf_form.specs.inner.reduced.Levels.{AreParts, AreTaken, AreFrom, AreUpTo, left_of}
pub use Rattle.gf_form.specs.inner.reduced.Levels.{Marks, Takes, is_in, Adds}
pub use Rattle.gf_form.specs.inner.reduced.OwnDigits.{digits_from, digits_with, own_steps}
pub use Rattle.gf_form.specs.inner.reduced.Relevance.{FindRelevance}
pub use Rattle.gf_form.specs.inner.reduced.Search.{is_relevant_at, AreFirstBelow, ChooseInTurn}
pub use Rattle.gf_form.specs.inner.reduced.Search.{AreFoundTo, IsSearched, actions_of, choices_at}
pub use Rattle.gf_form.specs.inner.reduced.Search.{is_settled, digit_at, numbered, steps_to, AreOwn}
pub use Rattle.gf_form.specs.inner.reduced.Search.{IsFirst, IsFine}
pub use Rattle.gf_form.specs.inner.reduced.Shown.{relevant_sets, shown}
pub use Rattle.gf_form.specs.inner.reduced.Survey.{own_visit, place_among, visit_at, visit_handing}
pub use Rattle.gf_form.specs.inner.reduced.Survey.{visits_by, visits_of}
pub use Rattle.gf_form.specs.inner.reduced.Visits.{is_met, is_met_on, AreActions, HoldTheSame}
pub use Rattle.gf_form.specs.inner.reduced.Visits.{order_of}
pub use Rattle.gf_form.specs.inner.rows.Demands.{meets, spans, steps_of}
pub use Rattle.gf_form.specs.inner.rows.DigitSteps.{steps_after, picked, width, in_order}
pub use Rattle.gf_form.specs.inner.rows.DigitSteps.{strides_of}
pub use Rattle.gf_form.specs.inner.rows.TermLists.{with_demands, sum_of_terms, first_terms, IsScale}
pub use Rattle.gf_form.specs.inner.rows.TermLists.{AreOrdered, AreExactAt, ComeAsWell, all_terms}
pub use Rattle.gf_form.specs.inner.rows.TermLists.{scaled_at, number_at, EndsBelow, IsExactAt, Term}
pub use Rattle.gf_form.specs.inner.rows.TermLists.{AreMerged, AreChosen, IsShaped, AreAlike, HasSum}
pub use Rattle.gf_form.specs.inner.rows.TermLists.{IsSumOf, term_at, no_term, lowered, ComeTo, part}
pub use Rattle.gf_form.specs.inner.rows.TermLists.{CountsBelow, AreInOrder, AreWithin, IsFactor}
pub use Rattle.gf_form.specs.inner.rows.TermLists.{IsNoted, IsSumAt, MayCome}
pub use Rattle.gf_form.specs.inner.rows.GameDigits.{AreDigitsOf, AreMadeOf, HasDigits, HaveSteps}
pub use Rattle.gf_form.specs.inner.rows.GameDigits.{digit_actions, actions_at}
pub use Rattle.gf_form.specs.inner.rows.KeptNodes.{paid_reached, is_paid}
pub use Rattle.gf_form.specs.inner.rows.ListedNodes.{AreTermsOf, TellNodes, HasShares, IsShareAt}
pub use Rattle.gf_form.specs.inner.rows.ListedNodes.{Tells}
pub use Rattle.gf_form.specs.inner.rows.Pairs.{HasPairRow, IsPaidPair}
pub use Rattle.gf_form.specs.inner.rows.ProfileRows.{AreRowsAt}
pub use Rattle.gf_form.specs.inner.rows.Descents.{demands_below, descent_all, stops_after, Entering}
pub use Rattle.gf_form.specs.inner.rows.Descents.{next_stops, open_stops, open_turns, stops_left}
pub use Rattle.gf_form.specs.inner.rows.Descents.{turns_left, demanding, choosing, comes_by, below}
pub use Rattle.gf_form.specs.inner.rows.Descents.{demanded, own_step, steps_by, Handing, descent}
pub use Rattle.gf_form.specs.inner.rows.Descents.{step_at, stop_at, stops, turns, Stop, kept}
pub use Rattle.gf_form.specs.inner.rows.ReachedNodes.{by_chance, is_sum_at, reached, followed}
pub use Rattle.gf_form.specs.inner.rows.ReachedNodes.{root_path, path_handing, is_personal, node_at}
pub use Rattle.gf_form.specs.inner.rows.SettledRows.{asked_profiles, AreWritten, SettlesAt, Settles}
pub use Rattle.gf_form.specs.inner.rows.SettledRows.{AreTermsFor, SettleBy}
pub use Rattle.gf_form.specs.inner.rows.Shares.{sum_of_shares, met_bounds, node_terms, AreDigits}
pub use Rattle.gf_form.specs.inner.rows.Shares.{ArePlaced, node_term, term_of, FitsAt, pay_at}
pub use Rattle.gf_form.specs.inner.rows.Shares.{IsShare}
pub use Rattle.gf_form.specs.inner.strategies.Counted.{AreCounts}
pub use Rattle.gf_form.specs.inner.strategies.LabelTexts.{choice_text, IsPlain}
pub use Rattle.gf_form.specs.inner.strategies.ProfileNumbers.{AreProfileNumbers, AreBelow}
pub use Rattle.gf_form.specs.inner.strategies.ProfileNumbers.{ArePicked, IsPicked, full_at}
pub use Rattle.gf_form.specs.inner.strategies.ProfileNumbers.{numbered_profiles}
pub use Rattle.gf_form.specs.inner.values.PaidRows.{rows_of}
pub use Rattle.gf_form.specs.inner.values.Rows.{ArePaid, at_place, row_at, IsRow, paid}
pub use Rattle.gf_form.specs.inner.values.Rows.{paid_at_node}
pub use Rattle.gf_form.specs.inner.values.Values.{value, chances_at, chance_value, child_value}
pub use Rattle.gf_form.specs.inner.values.Values.{plus_of, times_of, value_over, trees_of}
pub use Rattle.gf_form.specs.declared.reduced.labels.Found.{Found}
pub use Rattle.gf_form.specs.inner.reduced.Rows.{AreFound, AreTold, flag_at, HasRow, is_left_by}
pub use Rattle.gf_form.specs.inner.reduced.Rows.{IsFound, IsTold, Marked}
pub use Rattle.gf_form.specs.declared.rows.share.Share.{Share}
pub use Rattle.gf_form.specs.inner.values.NodeLists.{AreNodesOf, StandFrom, trees_in, tree_at}
pub use Rattle.gf_form.specs.inner.values.NodeLists.{AreOf}
pub use Rattle.gf_fraction.proofs.Offered.{product_is_computed, lowest_of-fraction, *ℤ-cancel_right}
pub use Rattle.gf_fraction.proofs.Offered.{product_of-none, product_of-some, sum_is_computed, back}
pub use Rattle.gf_fraction.proofs.Offered.{IsLcm-from_gcd, whole_fraction, mul_pos_right, all_parts}
pub use Rattle.gf_fraction.proofs.Offered.{part_fraction, one_fraction, plus_across, sum_of-none}
pub use Rattle.gf_fraction.proofs.Offered.{sum_of-some, times_above, times_right, all_images}
pub use Rattle.gf_fraction.proofs.Offered.{all_joined, all_weaker, equal_refl, plus_above, *ℤ_assoc}
pub use Rattle.gf_fraction.proofs.Offered.{plus_right, times_plus, times_zero, mul_above, plus_both}
pub use Rattle.gf_fraction.proofs.Offered.{plus_left, all_both, IsAbove, *ℤ-one, add-*ℤ, ◌then◌}
pub use Rattle.gf_fraction.specs.Offered.{product_of, sum_of, lowest_of}
pub use Rattle.gf_fraction.specs.Sum.{scaled_num, SumFits, AddsTo, IsLcm, IsSum}
pub use Rattle.gf_fraction.specs.Product.{MultipliesTo, IsProduct}
pub use Rattle.gf_fraction.specs.Ratio.{Ratio, IsFraction, whole, IsWithin, HasValue}
pub use Rattle.gf_fraction.specs.Rational.{IsEqual, zero_ratio, one_ratio, times, total, plus}
pub use Rattle.gf_nfg.proofs.Offered.{length-numbers_from, get_or-numbers_from, numbers_joined}
pub use Rattle.gf_nfg.proofs.Offered.{length-profiles, every_profile, are_profiles}
pub use Rattle.gf_nfg.specs.Limit.{profile_limit}
pub use Rattle.gf_nfg.specs.ProfilePlaces.{IsProfile}
pub use Rattle.gf_nfg.specs.Profiles.{product, profiles, positions, numbers_from}
pub use Rattle.gf_nfg.specs.Table.{Table, IsTable, Entry, rows}
pub use Rattle.gf_nfg.specs.TableOfParts.{IsTableOf}
pub use Rattle.gf_token.specs.Label.{label_of}
pub use Rattle.gf_token.specs.Positions.{at_position}
pub use Rattle.gf_tree.proofs.Offered.{carried_is_renumbered, same_tests, AreDistinct, was_used}
pub use Rattle.gf_tree.proofs.Offered.{is_used, first_uses_distinct, of_filter, held, map_twice}
pub use Rattle.gf_tree.proofs.Offered.{filter_of_map, map_same, in_left, in_right, has_at, entry_at}
pub use Rattle.gf_tree.proofs.Offered.{sets_by_first_use, sets_apart, same_set_equality}
pub use Rattle.gf_tree.proofs.Offered.{has, Has, all_of_each, each, contains, mapped_from, has_map}
pub use Rattle.gf_tree.proofs.Offered.{at_index, spelled_is_spellable, outcome_at_image, entry_used}
pub use Rattle.gf_tree.proofs.Offered.{not_described, set_at_image, used_before, IsEquality, meant}
pub use Rattle.gf_tree.proofs.Offered.{known_more, more_known, game_read, ok_game}
pub use Rattle.gf_tree.specs.Branches.{game_of, tree_of}
pub use Rattle.gf_tree.specs.BranchesLeft.{branches_given, branches_left, game_of_branches}
pub use Rattle.gf_tree.specs.Description.{SetKey, InformationSet, IsSet, same_set, set_of, Action}
pub use Rattle.gf_tree.specs.Description.{Outcome, outcome_with, IsOutcome, AddUpTo}
pub use Rattle.gf_tree.specs.FiniteMap.{Described, first_uses, description_at}
pub use Rattle.gf_tree.specs.KeysInOrder.{player_sets, player_keys, outcome_numbers}
pub use Rattle.gf_tree.specs.Game.{Game, Node, used_sets, set_at, outcome_at}
pub use Rattle.gf_tree.specs.IsGame.{IsGame, HasChildren}
pub use Rattle.gf_tree.specs.PrefixOrder.{flatten, flatten_all, Listed}
pub use Rattle.gf_tree.specs.Renumbering.{Renumbering, IsRenumbering, renumbered_set}
pub use Rattle.gf_tree.specs.Renumbering.{renumbered_node, renumbered}
pub use Rattle.gf_tree.specs.SameGame.{SameGame}
pub use Rattle.gf_tree.specs.Spellable.{IsSpellable, IsSpellableAction}
pub use Rattle.gf_tree.specs.Subtrees.{child_trees, list_of, root_node}
pub use Rattle.gf_tree.specs.Tree.{Tree, Trees, count, map_tree, map_trees}
pub use Rattle.gf_tree.specs.Tree.Tree.{branch}
pub use Rattle.gf_tree.specs.Tree.Trees.{none, more}
pub use Rattle.std.proofs.Common.{append_assoc, vec_capacity, MatchOption, option_map, slice_get, ℕ}
pub use Rattle.std.proofs.Common.{add-one, reverse, vec_len, Global, Option, get_or, length, nat_eq}
pub use Rattle.std.proofs.Common.{arith, false, rules, subst, Bool, List, None, OnOk, Some, cond, ℤ}
pub use Rattle.std.proofs.Common.{drop, lit<, of_z, refl, take, to_z, true, zero, ◌&&◌, ◌*ℤ◌, ◌++◌}
pub use Rattle.std.proofs.Common.{◌+ℤ◌, Err, Vec, inl, inr, map, pos, set, suc, sym, ◌%◌, ◌*◌, ◌+◌}
pub use Rattle.std.proofs.Common.{◌-◌, ◌/◌, ◌<◌, ◌^◌, ◌∙◌, ◌∷◌, ◌≡◌, ◌≤◌, ◌⊎◌, [], ap}
pub use Rattle.std.proofs.Math.Bool.{or-false, and-or_distrib_left, and-true, or-true}
pub use Rattle.std.proofs.Math.IntN.{zero-*ℤ, +ℤ_assoc, +ℤ_idl, *ℤ_comm, *ℤ-zero, +ℤ_idr}
pub use Rattle.std.proofs.Math.ListN.{drop_of_length-le}
pub use Rattle.std.proofs.Math.Nat.{mul-le-mul, div-add-mod, div-lt_iff_lt-mul, mod-lt, mul_comm}
pub use Rattle.std.proofs.Math.Nat.{mul-div_cancel_left, mul-le-mul_right, div-mul_cancel, div_self}
pub use Rattle.std.proofs.Math.Nat.{dvd-mul_left, mod-eq_of_lt, mod-add-div, mul_assoc, suc-mul}
pub use Rattle.std.proofs.Math.Nat.{dvd-mul_right, mul-div_cancel, pos_of_dvd_of_pos, one-dvd}
pub use Rattle.std.proofs.Math.Nat.{eq-one_of_dvd-one, mul-le-mul_left, mod-mod_of_dvd}
pub use Rattle.std.proofs.Math.Seq.{take-suc, take-length, take-append_seam, drop-cons, drop-nil}
pub use Rattle.std.proofs.Math.Seq.{get_or-append_seam, drop-append_seam, take-add}
pub use Rattle.std.proofs.lemmas.Bool.{eqb-false, and_from, and_parts, eqb-true, false≢true, eq-eqb}
pub use Rattle.std.proofs.lemmas.Bool.{false_from_ne_true, or_left, or_right, cases_lt}
pub use Rattle.std.proofs.lemmas.Bool.{ne_eqb, cases_Bool, ltb-false, cases_eq, ltb-true}
pub use Rattle.std.proofs.lemmas.Fmt.{decimal_injective, decimal_by_steps, decimal_digit}
pub use Rattle.std.proofs.lemmas.Grind.{flat_map-append, get_or-set_at, common_steps}
pub use Rattle.std.proofs.lemmas.Int.{ints, unsigned_abs-mul, fits_signed_from_abs, to_z-of_z}
pub use Rattle.std.proofs.lemmas.List.{append_cancel_left, get_or_append_left, get_or-append-add}
pub use Rattle.std.proofs.lemmas.List.{get_or-set_other, take-append-drop, get_or-set_same}
pub use Rattle.std.proofs.lemmas.List.{nil_from_length, drop-append-le, get_or_default, get_or-drop}
pub use Rattle.std.proofs.lemmas.List.{length-take-le, reverse-append, length-append, get_or-take}
pub use Rattle.std.proofs.lemmas.List.{get_or_past, get_or_push, length-drop, length-take, set_past}
pub use Rattle.std.proofs.lemmas.List.{append-nil, ext_get_or, get_or-map, length-map, length-set}
pub use Rattle.std.proofs.lemmas.List.{map-append, drop-drop, take_more, take-map, take_all}
pub use Rattle.std.proofs.lemmas.List.{take-append-le, take_rest, map_push}
pub use Rattle.std.proofs.lemmas.List.Elements.{All-from_recursion, Contains-get_or}
pub use Rattle.std.proofs.lemmas.List.Elements.{recursion_from_All, All-get_or, All-from_get_or}
pub use Rattle.std.proofs.lemmas.List.Elements.{filter_map-append, All-contains}
pub use Rattle.std.proofs.lemmas.List.Folds.{list_any-append, Any-from_list_any, list_any_more}
pub use Rattle.std.proofs.lemmas.List.Folds.{list_any_at}
pub use Rattle.std.proofs.lemmas.List.Sorted.{IsNonDecreasingBy-push, list_any-IsPermutation}
pub use Rattle.std.proofs.lemmas.List.Sorted.{All-permutation, IsNonDecreasingBy-from_sort_by_key}
pub use Rattle.std.proofs.lemmas.Nat.Gcd.{dvd_refl, dvd_trans}
pub use Rattle.std.proofs.lemmas.Option.{unwrap_or-slice_get, slice_get-map, none-some}
pub use Rattle.std.proofs.lemmas.Option.{slice_get-get_or, slice_get_past}
pub use Rattle.std.proofs.lemmas.Result.{IfOk-weaker, on_ok_weaker}
pub use Rattle.std.proofs.lemmas.Slice.Zip.{AllZip-long, all_zipped_more}
pub use Rattle.std.proofs.Math.Path.{transport⁻¹, transport, subst₂}
pub use Rattle.std.proofs.lemmas.Bool.Decides.{nat_tests}
pub use Rattle.std.proofs.lemmas.Nat.{div-mul-add, mod-mul-add}
pub use Rattle.std.specs.Bool.{Decides, MatchBool}
pub use Rattle.std.specs.Cmp.Lexicographic.{pointwise}
pub use Rattle.std.specs.Int.{◌∣◌, w128, IsGcd}
pub use Rattle.std.specs.List.{AllByRecursion, AllZip, Contains, list_all, list_any, join_with_byte}
pub use Rattle.std.specs.List.{flat_map, filter_map, dedup_from, sum_by, dedup}
pub use Rattle.std.specs.List.Sorted.{IsNonDecreasingBy, IsPermutation}
pub use Rattle.std.specs.Option.{option_map_or}
pub use Rattle.std.specs.Prelude.{◌==◌, filter, ◌↔◌, ◌||◌, codes, nat_lt, not, zip, find, IfSome}
pub use Rattle.std.specs.Prelude.{option_and_then, unwrap_or, if◌then◌else◌, unsigned_abs, decimal}
pub use Rattle.std.specs.Prelude.{position, ◌≤ℤ◌}
