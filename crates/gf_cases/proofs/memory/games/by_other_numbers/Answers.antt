use Rattle.std.proofs.Common.{rules, arith, tests, ◌≡◌, ℕ, ◌≤◌, length, zero, suc, [], ◌∷◌, List, get_or}
use Rattle.std.proofs.lemmas.List.{length-map}
use Rattle.gf_tree.specs.Game.{Game}
use Rattle.gf_tree.specs.KeysInOrder.{outcome_numbers, player_keys}
use Rattle.gf_tree.specs.ListedNumbers.{AreListed, AreNumbers}
use Rattle.gf_cases.proofs.memory.games.by_other_numbers.Goals as goal

each_set : (g : Game) (chance own : List ℕ) → length g.players ≡ 1
    → length (player_keys g 0) ≡ length chance → length (player_keys g 1) ≡ length own
    → (player : ℕ) → player ≤ length g.players
    → length (get_or (chance ∷ own ∷ []) player []) ≡ length (player_keys g player)
each_set g chance own players first second zero within = grind (arith, first)
each_set g chance own players first second (suc zero) within = grind (arith, second)
each_set g chance own players first second (suc (suc n)) within = absurd (omega (arith, players, within))

two : AreNumbers (2 ∷ [])
two = search (rules, tests)

three_eight : AreNumbers (3 ∷ 8 ∷ [])
three_eight = search (rules, tests, arith)

listed : (g : Game) → length g.players ≡ 1 → length (player_keys g 0) ≡ 1
    → length (player_keys g 1) ≡ 2 → length (outcome_numbers g) ≡ 1
    → (chance own : List ℕ) → chance ≡ 2 ∷ [] → own ≡ 3 ∷ 8 ∷ []
    → AreListed g (chance ∷ own ∷ []) (2 ∷ [])
listed g players first second outcomes chance own is-2 is-3-8 = rw (is-2, is-3-8) record {
  one_list_each = grind (arith, players);
  each_set = each_set g (2 ∷ []) (3 ∷ 8 ∷ []) players first second;
  set_numbers = (two, (three_eight, tt));
  each_outcome = grind (arith, outcomes);
  outcome_numbers = two;
}

pub with_numbers-requires : goal.with_numbers-requires
with_numbers-requires c =
    let r = c.in-Ok-Ok in
    listed c.args.game.now
    (grind (arith, length-map, c.players.ensures.names, c.if-players-ne1.false))
    (grind (arith, c.set_count.ensures.count, c.if-set_count-ne1.false))
    (grind (arith, c.set_count-else-set_count-ne1.ensures.count, c.if-set_count-ne2.false))
    (grind (arith, c.outcome_count.ensures.count, c.if-outcome_count-ne1.false))
    r.chance.items r.own.items r.ensures.items r.ensures'.items
