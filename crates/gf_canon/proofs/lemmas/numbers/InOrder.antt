-- Keys in order of first use have the numbers 1, 2 and so on, and so do a player's sets and the
-- outcomes of a game.
use Rattle.gf_canon.proofs.Common.{first_use_numbers, same_set_equality, first_use_number, eqb-true}
use Rattle.gf_canon.proofs.Common.{outcome_numbers, length-append, used_outcomes, append_assoc, ◌≡◌}
use Rattle.gf_canon.proofs.Common.{numbers_from, Decides-eqb, player_keys, first_uses, IsEquality}
use Rattle.gf_canon.proofs.Common.{positions, used_sets, of_filter, same_set, was_used, map_same, ℕ}
use Rattle.gf_canon.proofs.Common.{sets_of, length, nat_eq, IsGame, arith, Bool, ◌+◌}
use Rattle.gf_canon.proofs.Common.{List, ◌++◌, refl, Game, ◌∷◌, map, ◌∙◌, []}
use Rattle.gf_tree.proofs.Offered.{number_at, sets_by_first_use}

numbers_on : {K : Type 0} (same : K → K → Bool)
    → IsEquality same → (ks before after : List K) → first_uses same ks ≡ before ++ after
    → map (first_use_number same ks) after ≡ numbers_from (length before + 1) (length after)
numbers_on same tells ks before [] e = refl
numbers_on same tells ks before (key ∷ after) e =
    let rest = numbers_on same tells ks (before ++ key ∷ []) after in
    grind (arith, number_at, append_assoc, length-append)

pub numbered_in_order : {K : Type 0} (same : K → K → Bool) → IsEquality same → (ks : List K)
    → map (first_use_number same ks) (first_uses same ks)
    ≡ numbers_from 1 (length (first_uses same ks))
numbered_in_order same tells ks = numbers_on same tells ks [] (first_uses same ks) refl

-- ---- the sets of a player, and the outcomes

pub sets_in_order : (g : Game) (player : ℕ) → IsGame g
    → map (λ key. (first_use_numbers g).set player key.number) (player_keys g player)
    ≡ positions (length (player_keys g player))
sets_in_order g player game =
    let own = sets_of player (used_sets g.tree) in
    rw (sets_by_first_use g player game)
    (map_same (λ key. (first_use_numbers g).set player key.number) (first_use_number same_set own)
    (first_uses same_set own) (λ key i. grind (arith, eqb-true, of_filter, was_used))
    ∙ numbered_in_order same_set same_set_equality own)

pub outcomes_in_order : (g : Game) → IsGame g
    → map (first_use_numbers g).outcome (outcome_numbers g) ≡ positions (length (outcome_numbers g))
outcomes_in_order g game =
    rw game.one_entry_each_outcome (numbered_in_order nat_eq Decides-eqb (used_outcomes g.tree))

pub ruleset in_order = (numbered_in_order, sets_in_order, outcomes_in_order)
