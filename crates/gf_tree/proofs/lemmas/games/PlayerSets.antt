-- A game has each player's sets in the order of their first use.
use Rattle.gf_tree.proofs.Common.{◌≡◌, ℕ, Bool, true, false, not, cond, List, [], ◌∷◌, refl, ap}
use Rattle.gf_tree.proofs.Common.{◌∙◌, arith, filter, both_ways, same_set, first_uses, player_keys}
use Rattle.gf_tree.proofs.Common.{sets_of, Game, IsGame, used_sets, cases_Bool, not_from_false}
use Rattle.gf_tree.proofs.lemmas.games.FirstUses.{was_used, of_filter}
use Rattle.gf_tree.proofs.lemmas.games.Members.{filter_of_map, filter_swap, filter_all}
use Rattle.gf_tree.proofs.lemmas.games.TreesOnce.{same_set_equality}
use Rattle.gf_tree.proofs.lemmas.games.Uses.{Has, IsEquality}

-- keys that pass a test are first used in the order of all keys
passing_first_uses : {K : Type 0} (same : K → K → Bool) → IsEquality same
    → (p : K → Bool) (ks : List K) → filter p (first_uses same ks) ≡ first_uses same (filter p ks)
passing_first_uses same tells p [] = refl
passing_first_uses {K} same tells p (k ∷ ks) =
    by_test (passing_first_uses same tells p ks) (p k) refl
  where
    other : K → Bool
    other x = not (same k x)

    swapped : filter p (first_uses same ks) ≡ first_uses same (filter p ks)
        → filter p (filter other (first_uses same ks))
        ≡ filter other (first_uses same (filter p ks))
    swapped others = filter_swap p other (first_uses same ks) ∙ ap (filter other) others

    all_other : p k ≡ false → (x : K) → Has (first_uses same (filter p ks)) x → other x ≡ true
    all_other e x i = grind (arith, of_filter, was_used, cases_Bool, both_ways, not_from_false)

    by_test : filter p (first_uses same ks) ≡ first_uses same (filter p ks) → (b : Bool) → p k ≡ b
        → filter p (k ∷ filter other (first_uses same ks))
        ≡ first_uses same (cond b (k ∷ filter p ks) (filter p ks))
    by_test h b h2 = grind (arith, swapped, filter_all, other, all_other)

pub sets_by_first_use : (g : Game) (player : ℕ) → IsGame g
    → player_keys g player ≡ first_uses same_set (sets_of player (used_sets g.tree))
sets_by_first_use g player game =
    grind (arith, filter_of_map, passing_first_uses, same_set_equality)
