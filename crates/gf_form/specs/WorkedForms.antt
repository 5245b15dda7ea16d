-- Worked games, with their strategic and reduced forms.
use Rattle.std.specs.Prelude.{ℕ, ◌^◌, ◌-◌, pos, neg_ℤ, List, [], ◌∷◌, codes, Some, None}
use Rattle.gf_fraction.specs.Ratio.{Ratio, whole}
use Rattle.gf_nfg.specs.Table.{Entry, Table}
use Rattle.gf_tree.specs.Description.{Action, set_of}
use Rattle.gf_tree.specs.Game.{Game}
use Rattle.gf_tree.specs.WorkedTrees.{moves, ends, choice, half, toss}
use Rattle.gf_tree.specs.WorkedTrees.{described, one, two, paying, game}

-- 2^127 - 1, the greatest payoff
abbrev pub greatest : Ratio
greatest = whole (pos (2 ^ 127 - 1))

-- a table of the player "A"
abbrev pub table : List ℕ → List (List ℕ) → List Entry → Table
table title strategies entries = record {
  title = title;
  comment = [];
  players = codes "A" ∷ [];
  strategies = strategies ∷ [];
  entries = entries;
}

abbrev pub entry : List ℕ → List Ratio → Entry
entry profile payoffs = record { profile = profile; payoffs = payoffs }

-- at this strategy, this whole payoff
abbrev pub pays : ℕ → ℕ → Entry
pays strategy payoff = entry (strategy ∷ []) (whole (pos payoff) ∷ [])

-- ---- the form of the game "bonus", in which the second player has no set

abbrev pub bonus_form : Table
bonus_form = record {
  title = codes "g";
  comment = [];
  players = codes "A" ∷ codes "B" ∷ [];
  strategies = (codes "1" ∷ codes "2" ∷ []) ∷ ([] ∷ []) ∷ [];
  entries = entry (1 ∷ 1 ∷ []) (record { num = pos 3; den = 2 } ∷ whole (pos 0) ∷ [])
      ∷ entry (2 ∷ 1 ∷ []) (whole (pos 2) ∷ half ∷ []) ∷ [];
}

-- ---- a payoff that fits, although a sum on the way to it does not

abbrev pub overflowing : Game
overflowing = game (codes "o")
    (moves (set_of 1 1) (Some 1)
    (two (ends None) (moves (set_of 1 2) (Some 2) (one (ends (Some 3))))))
    (described (set_of 1 1) (choice (codes "i") (codes "a" ∷ codes "b" ∷ []))
    ∷ described (set_of 1 2) (choice (codes "j") (codes "c" ∷ [])) ∷ [])
    (described 1 (paying (codes "x") (whole (neg_ℤ (pos 1))))
    ∷ described 2 (paying (codes "y") greatest) ∷ described 3 (paying (codes "z") (whole (pos 1)))
    ∷ [])

-- its player's second strategy
abbrev pub second : List (List ℕ)
second = (2 ∷ 1 ∷ []) ∷ []

-- ---- a payoff that overflows where chance never leads

-- what chance does, with probability one
abbrev pub sure : List ℕ → Action
sure label = record { label = label; probability = Some (whole (pos 1)) }

-- what it never does
abbrev pub never : List ℕ → Action
never label = record { label = label; probability = Some (whole (pos 0)) }

abbrev pub unlikely : Game
unlikely = game (codes "q")
    (moves (set_of 0 1) None
    (two (ends (Some 1)) (moves (set_of 0 2) (Some 2) (one (ends (Some 1))))))
    (described (set_of 0 1)
    (record { name = codes "n"; actions = sure (codes "a") ∷ never (codes "b") ∷ [] })
    ∷ described (set_of 0 2) (record { name = codes "k"; actions = sure (codes "e") ∷ [] }) ∷ [])
    (described 1 (paying (codes "x") (whole (pos 1))) ∷ described 2 (paying (codes "y") greatest)
    ∷ [])

-- the only strategy of a player without sets
abbrev pub only : List (List ℕ)
only = [] ∷ []

-- ---- a payoff at a node of chance, which fits together with each child's product, but is added
-- after their sum

abbrev pub balancing : Game
balancing = game (codes "b")
    (moves (set_of 0 1) (Some 1) (two (ends (Some 2)) (ends (Some 3))))
    (described (set_of 0 1) (toss (codes "n")) ∷ [])
    (described 1 (paying (codes "x") (whole (neg_ℤ (pos (2 ^ 126 - 1)))))
    ∷ described 2 (paying (codes "y") greatest)
    ∷ described 3 (paying (codes "z") (whole (pos (2 ^ 127 - 3)))) ∷ [])

-- ---- a choice that does not matter, after an action that ends the play

abbrev pub ending : Game
ending = game (codes "r")
    (moves (set_of 1 1) None
    (two (ends (Some 1)) (moves (set_of 1 2) None (two (ends (Some 2)) (ends (Some 3))))))
    (described (set_of 1 1) (choice (codes "i") (codes "a" ∷ codes "b" ∷ []))
    ∷ described (set_of 1 2) (choice (codes "j") (codes "c" ∷ codes "d" ∷ [])) ∷ [])
    (described 1 (paying (codes "x") (whole (pos 1)))
    ∷ described 2 (paying (codes "y") (whole (pos 2)))
    ∷ described 3 (paying (codes "z") (whole (pos 3))) ∷ [])

abbrev pub ending_form : Table
ending_form = table (codes "r") (codes "1-1" ∷ codes "1-2" ∷ codes "2-1" ∷ codes "2-2" ∷ [])
    (pays 1 1 ∷ pays 2 1 ∷ pays 3 2 ∷ pays 4 3 ∷ [])

abbrev pub ending_reduced : Table
ending_reduced = table (codes "r") (codes "1-*" ∷ codes "2-1" ∷ codes "2-2" ∷ [])
    (pays 1 1 ∷ pays 2 2 ∷ pays 3 3 ∷ [])

-- ---- a set after both actions of one that is met twice, which no strategy chooses

abbrev pub contradicted : Game
contradicted = game []
    (moves (set_of 1 1) None (two (moves (set_of 1 1) None
    (two (ends None) (moves (set_of 1 2) None (two (ends None) (ends None)))))
    (ends None)))
    (described (set_of 1 1) (choice [] ([] ∷ [] ∷ []))
    ∷ described (set_of 1 2) (choice [] ([] ∷ [] ∷ [])) ∷ [])
    []
