-- Two renumberings that carry a game to another have the same pairs.
use Rattle.gf_canon.proofs.Common
use Common.{outcome_numbers_carried, set_numbers_carried, outcome_numbers, arith}
use Common.{outcome_pairs, Renumbering, player_keys, set_numbers, NumberPair, map_twice, set_pairs}
use Common.{Carries, Outcome, IsGame, SetKey, Game, List, refl, Set, map, sym, ◌∙◌, ◌∷◌, ◌≡◌, [], ℕ}

module _ (r : Renumbering) (g h : Game) (games : IsGame g × IsGame h) (c : Carries r g h) where
  pub numbers_carried : (player : ℕ)
      → set_numbers h player ≡ map (r.set player) (set_numbers g player)
  numbers_carried player =
      set_numbers_carried r g h games.0 games.1 c player
      ∙ sym (map_twice (r.set player) (λ (key : SetKey). key.number) (player_keys g player))

module _ (pair : ℕ → ℕ → NumberPair) (f e : ℕ → ℕ) where
  same_pairs : (ns : List ℕ) → map f ns ≡ map e ns
      → map (λ n. pair n (f n)) ns ≡ map (λ n. pair n (e n)) ns
  same_pairs [] is = refl
  same_pairs (n ∷ ns) is = grind (arith, same_pairs ns)

module _ (g h : Game) (games : IsGame g × IsGame h) (r s : Renumbering) (c : Carries r g h)
    (d : Carries s g h) where
  pub same_sets : (player : ℕ) → set_pairs r g player ≡ set_pairs s g player
  same_sets player =
      same_pairs (Set player) (r.set player) (s.set player) (set_numbers g player)
      (sym (numbers_carried r g h games c player) ∙ numbers_carried s g h games d player)

  pub same_outcomes : outcome_pairs r g ≡ outcome_pairs s g
  same_outcomes =
      same_pairs Outcome r.outcome s.outcome (outcome_numbers g)
      (sym (outcome_numbers_carried r g h games.0 games.1 c)
      ∙ outcome_numbers_carried s g h games.0 games.1 d)
