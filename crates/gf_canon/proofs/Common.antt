-- The names that many lemmas of this crate cite, passed on from one place. Declares nothing.
pub use Rattle.gf_canon.specs.CanonicalFile.{canonical_file}
pub use Rattle.gf_canon.specs.CanonicalText.{IsCanonicalText, SpellsWithin}
pub use Rattle.gf_canon.specs.GameFile.{canonical_text, SpellsFile, GameFile, SameFile}
pub use Rattle.gf_canon.specs.GameFile.GameFile.{extensive, strategic}
pub use Rattle.gf_canon.specs.GameText.{described_fields, outcome_fields, action_fields, set_fields}
pub use Rattle.gf_canon.specs.GameText.{result_fields, mover_fields, step_fields, game_text}
pub use Rattle.gf_canon.specs.GameText.{node_text}
pub use Rattle.gf_canon.specs.IsGameFile.{IsGameFile}
pub use Rattle.gf_canon.specs.Judgement.{IsInEitherFormat, IsWithoutFormat, BeginsWithWord}
pub use Rattle.gf_canon.specs.Judgement.{IsRefusedWith, IsRefused, MeansFile, IsJudged, IsPlaced}
pub use Rattle.gf_canon.specs.NamesAside.{SameAsideNames, unnamed_table, unnamed_game, unnamed_node}
pub use Rattle.gf_canon.specs.NamesAside.{IsTextBy, file_by, unnamed}
pub use Rattle.gf_canon.specs.NewNumbers.{new_outcome_number, IsOnlyRenumbering, new_set_number}
pub use Rattle.gf_canon.specs.NewNumbers.{new_numbers, NewNumbers}
pub use Rattle.gf_canon.specs.Pairs.{renumbering_pairs, outcome_pairs, set_numbers, set_pairs}
pub use Rattle.gf_canon.specs.SameBy.{SameBy}
pub use Rattle.gf_canon.specs.declared.numbering.pairs.NumberPair.{NumberPair}
pub use Rattle.gf_canon.specs.declared.numbering.pairs.NumberPair.TheVariants.{Outcome, Set}
pub use Rattle.gf_token.specs.declared.names.Names.{Names}
pub use Rattle.gf_token.specs.declared.names.Names.TheVariants.{Aside, Kept}
pub use Rattle.gf_canon.specs.inner.NamedBy.{heading_by, game_by, node_by}
pub use Rattle.gf_canon.specs.inner.NumberMaps.{number_of_set, numbers_in, set_order, noted}
pub use Rattle.gf_canon.specs.inner.TextParts.{heading_text, first_line, EndsAt}
pub use Rattle.gf_canon.specs.inner.TextParts.{node_line, told_text}
pub use Rattle.gf_fraction.proofs.Offered.{all_images, all_weaker}
pub use Rattle.gf_nfg.specs.Limit.{IsWithinLimit}
pub use Rattle.gf_nfg.specs.Profiles.{numbers_from, positions}
pub use Rattle.gf_nfg.specs.Table.{Table}
pub use Rattle.gf_nfg.specs.TableText.{SpellsTable, lines_text, list_text, quoted, spaced}
pub use Rattle.gf_token.specs.TextLayout.{others_text, Keeps}
pub use Rattle.gf_token.proofs.Offered.{spelled_once, same_tokens}
pub use Rattle.gf_token.specs.Label.{label_of}
pub use Rattle.gf_token.specs.LabelSpelling.{IsLabel}
pub use Rattle.gf_token.specs.Place.{IsAcceptedThrough, IsOffendingPlace, IsAccepted, MayFollow}
pub use Rattle.gf_token.specs.Place.{tokens_of}
pub use Rattle.gf_token.specs.Positions.{at_position}
pub use Rattle.gf_token.specs.Remaining.{refusal}
pub use Rattle.gf_token.specs.Token.{Lexeme, Token}
pub use Rattle.gf_token.specs.Token.Token.{Bare, Text}
pub use Rattle.gf_token.specs.TokenSpelling.{Spells}
pub use Rattle.gf_token.specs.declared.fault.Fault.{Fault}
pub use Rattle.gf_token.specs.declared.fault.Span.{Span}
pub use Rattle.gf_token.specs.declared.fault.What.TheVariants.{Format}
pub use Rattle.gf_token.specs.declared.fault.Why.{Why}
pub use Rattle.gf_token.specs.declared.fault.Why.TheVariants.{TooManyProfiles, Expected, Memory}
pub use Rattle.gf_tree.proofs.Offered.{outcome_number_positive, outcome_numbers_carried, IsEquality}
pub use Rattle.gf_tree.proofs.Offered.{carries_to_canonical, first_uses_distinct, canonical_is_game}
pub use Rattle.gf_tree.proofs.Offered.{set_number_positive, set_numbers_carried, outcomes_in_order}
pub use Rattle.gf_tree.proofs.Offered.{same_by_canonical, same_set_equality, canonical_twice, Agree}
pub use Rattle.gf_tree.proofs.Offered.{spells_one_game, equal_headings, map_tree_twice, AreDistinct}
pub use Rattle.gf_tree.proofs.Offered.{only_outcomes, sets_in_order, agreed_games, all_of_each, Has}
pub use Rattle.gf_tree.proofs.Offered.{flatten_map, mapped_from, same_itself, entry_used, has_place}
pub use Rattle.gf_tree.proofs.Offered.{map_entry, map_twice, of_filter, only_sets, same_back, found}
pub use Rattle.gf_tree.proofs.Offered.{contains, map_same, was_used, has_map, in_keys, same_on, has}
pub use Rattle.gf_tree.proofs.Offered.{each, held}
pub use Rattle.gf_tree.specs.CanonicalGame.{canonical_game}
pub use Rattle.gf_tree.specs.Consistent.{AreConsistent, IsConsistent, IsDescribed, IsFirstUse}
pub use Rattle.gf_tree.specs.Consistent.{Describes}
pub use Rattle.gf_tree.specs.Description.{InformationSet, IsOutcome, same_set, Action, SetKey}
pub use Rattle.gf_tree.specs.Description.{set_of, IsSet}
pub use Rattle.gf_tree.specs.FileNodeOf.{file_node_of, set_use_of}
pub use Rattle.gf_tree.specs.FileNodes.{with_those_before, file_nodes, node_after, use_after}
pub use Rattle.gf_tree.specs.FileTree.{outcome_uses, FileNode, FileTree, set_uses, Use}
pub use Rattle.gf_tree.specs.Fills.{Fills}
pub use Rattle.gf_tree.specs.FiniteMap.{description_at, first_uses, Described}
pub use Rattle.gf_tree.specs.FirstUse.{first_use_numbers, first_use_number, sets_of}
pub use Rattle.gf_tree.specs.KeysInOrder.{outcome_numbers, player_keys}
pub use Rattle.gf_tree.specs.Game.{used_outcomes, outcome_at, used_sets, set_at, Game, Node}
pub use Rattle.gf_tree.specs.IsGame.{IsGame}
pub use Rattle.gf_tree.specs.GameOf.{SpellsGame, keys_alone, IsGameOf}
pub use Rattle.gf_tree.specs.PrefixOrder.{flatten, Listed}
pub use Rattle.gf_tree.specs.Renumbering.{renumbered_node, renumbered_set, Renumbering, HasOutcome}
pub use Rattle.gf_tree.specs.Renumbering.{renumbered, HasSet}
pub use Rattle.gf_tree.specs.SameGame.{SameGame, Carries}
pub use Rattle.gf_tree.specs.Spellable.{IsSpellableOutcome, IsSpellableAction, IsSpellableSet}
pub use Rattle.gf_tree.specs.Spellable.{IsSpellable}
pub use Rattle.gf_tree.specs.Told.{heading_in, Heading, Told}
pub use Rattle.gf_tree.specs.Unnamed.{unnamed_outcome, unnamed_set, use_by}
pub use Rattle.std.proofs.Common.{length-append, append_assoc, MatchResult, length-drop, replicate}
pub use Rattle.std.proofs.Common.{Global, Option, Result, filter, get_or, length, IfErr, arith, Err}
pub use Rattle.std.proofs.Common.{false, rules, subst, Bool, IfOk, List, None, OnOk, Some, cond, Ok}
pub use Rattle.std.proofs.Common.{drop, refl, take, true, zero, ◌++◌, Vec, eqb, inl, inr, map, set}
pub use Rattle.std.proofs.Common.{suc, sym, ◌+◌, ◌-◌, ◌<◌, ◌^◌, ◌∙◌, ◌∷◌, ◌≡◌, ◌≢◌, ◌≤◌, [], ap, ℕ}
pub use Rattle.std.proofs.lemmas.Bool.{eqb-true, or_cases, ne_eqb}
pub use Rattle.std.proofs.lemmas.Bool.Decides.{Decides-eqb, nat_tests}
pub use Rattle.std.proofs.lemmas.Grind.{flat_map-append, common_steps}
pub use Rattle.std.proofs.lemmas.List.{nil_from_length, at_drop_all, append-nil, get_or-map}
pub use Rattle.std.proofs.lemmas.List.{length-map, map-append, drop-set, take_all}
pub use Rattle.std.proofs.lemmas.Result.{on_ok_weaker}
pub use Rattle.std.specs.BTreeMap.{BTreeMap, get}
pub use Rattle.std.specs.Cmp.Lexicographic.{pointwise}
pub use Rattle.std.specs.List.{AllByRecursion, cons_option, filter_map, flat_map, list_any}
pub use Rattle.std.specs.Ordering.{nat_cmp, is_eq}
pub use Rattle.std.specs.Prelude.{if◌then◌else◌, MatchOption, option_map, unwrap_or, decimal, codes}
pub use Rattle.std.specs.Prelude.{is_some, IsSome, IsTrue, nat_eq, ◌==◌, ◌↔◌, ◌⊎◌}
