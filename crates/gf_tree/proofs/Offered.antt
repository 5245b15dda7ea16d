-- What the proofs of the crates above cite of these proofs, and nothing else of them.
pub use Rattle.gf_tree.proofs.lemmas.games.Canonical.{outcome_numbers_carried, carries_to_canonical}
pub use Rattle.gf_tree.proofs.lemmas.games.Canonical.{carried_is_renumbered, outcome_number_kept}
pub use Rattle.gf_tree.proofs.lemmas.games.Canonical.{set_numbers_carried, canonical_is_game}
pub use Rattle.gf_tree.proofs.lemmas.games.Canonical.{same_by_canonical, carried_by_parts}
pub use Rattle.gf_tree.proofs.lemmas.games.Canonical.{canonical_twice, set_number_kept}
pub use Rattle.gf_tree.proofs.lemmas.games.Carried.{entry_used, in_keys}
pub use Rattle.gf_tree.proofs.lemmas.games.Consistent.{outcomes_in_order, sets_in_order, map_entry}
pub use Rattle.gf_tree.proofs.lemmas.games.Consistent.{flatten_map, is_game}
pub use Rattle.gf_tree.proofs.lemmas.games.EqualHeadings.{equal_headings}
pub use Rattle.gf_tree.proofs.lemmas.games.FirstUseNumbers.{number_at_most, same_tests, number_at}
pub use Rattle.gf_tree.proofs.lemmas.games.FirstUseNumbers.{AreApart}
pub use Rattle.gf_tree.proofs.lemmas.games.FirstUses.{first_uses_distinct, AreDistinct, in_filter}
pub use Rattle.gf_tree.proofs.lemmas.games.FirstUses.{of_filter, was_used, is_used, found}
pub use Rattle.gf_tree.proofs.lemmas.games.Learned.{game_learned_once, told_found}
pub use Rattle.gf_tree.proofs.lemmas.games.Learning.{learned_once}
pub use Rattle.gf_tree.proofs.lemmas.games.ListedNumbers.{some_player, own_key}
pub use Rattle.gf_tree.proofs.lemmas.games.Lookups.{entry_at}
pub use Rattle.gf_tree.proofs.lemmas.games.MappedTrees.{map_tree_twice, held}
pub use Rattle.gf_tree.proofs.lemmas.games.Members.{filter_of_map, map_twice, in_right, map_same}
pub use Rattle.gf_tree.proofs.lemmas.games.Members.{in_left, has_at}
pub use Rattle.gf_tree.proofs.lemmas.games.PlayerSets.{sets_by_first_use}
pub use Rattle.gf_tree.proofs.lemmas.games.Prefix.{flatten_once, fills_one, one_tree}
pub use Rattle.gf_tree.proofs.lemmas.games.Renumbered.{outcome_at_image, set_at_image, own_set}
pub use Rattle.gf_tree.proofs.lemmas.games.Renumberings.{outcome_number_positive, agreed_games}
pub use Rattle.gf_tree.proofs.lemmas.games.Renumberings.{set_number_positive, sets_apart, Agree}
pub use Rattle.gf_tree.proofs.lemmas.games.Same.{carried_outcomes, only_outcomes, carried_sets}
pub use Rattle.gf_tree.proofs.lemmas.games.Same.{same_itself, only_sets, same_back, same_on}
pub use Rattle.gf_tree.proofs.lemmas.games.Spelled.{spelled_is_spellable}
pub use Rattle.gf_tree.proofs.lemmas.games.TreesOnce.{same_set_equality, spells_one_game}
pub use Rattle.gf_tree.proofs.lemmas.games.Uses.{all_of_each, mapped_from, IsEquality, has_place}
pub use Rattle.gf_tree.proofs.lemmas.games.Uses.{contains, has_map, each, Has, has}
pub use Rattle.gf_tree.proofs.lemmas.games.Worked.{five_is_meant, game_read, ok_game, meant}
pub use Rattle.gf_tree.proofs.lemmas.places.RefusedOnce.{refused_once, answered}
pub use Rattle.gf_tree.proofs.lemmas.runs.KnownActions.{HasProbability, probabilities}
pub use Rattle.gf_tree.proofs.lemmas.runs.Places.{is_reader}
pub use Rattle.gf_tree.proofs.lemmas.runs.Tokens.{same_bytes}
pub use Rattle.gf_tree.proofs.lemmas.stores.FoundKeys.{not_described}
pub use Rattle.gf_tree.proofs.lemmas.stores.KnownKeys.{used_before, known_more, more_known}
pub use Rattle.gf_tree.proofs.lemmas.stores.Places.{at_index}
