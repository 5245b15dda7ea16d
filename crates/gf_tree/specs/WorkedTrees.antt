-- Worked games, with files that mean them, and files that mean none.
use Rattle.std.specs.Prelude.{ℕ, List, [], ◌∷◌, ◌++◌, map, codes, pos, Option, Some, None}
use Rattle.gf_fraction.specs.Ratio.{Ratio, whole}
use Rattle.gf_tree.specs.Tree.{Tree, Trees}
use Rattle.gf_tree.specs.Tree.Tree.{branch}
use Rattle.gf_tree.specs.Tree.Trees.{none, more}
use Rattle.gf_tree.specs.Description.{InformationSet, Outcome, SetKey, set_of}
use Rattle.gf_tree.specs.FiniteMap.{Described}
use Rattle.gf_tree.specs.Game.{Node, Game}

-- a node without a name at a set, and its branches
abbrev pub moves : SetKey → Option ℕ → Trees Node → Tree Node
moves key outcome branches =
    branch (record { name = []; set = Some key; outcome = outcome }) branches

-- a terminal node without a name
abbrev pub ends : Option ℕ → Tree Node
ends outcome = branch (record { name = []; set = None; outcome = outcome }) none

-- a player's set with actions of these labels
abbrev pub choice : List ℕ → List (List ℕ) → InformationSet
choice name labels = record {
  name = name;
  actions = map (λ label. record { label = label; probability = None }) labels;
}

-- one branch, and two
abbrev pub one : Tree Node → Trees Node
one t = more t none

abbrev pub two : Tree Node → Tree Node → Trees Node
two t u = more t (one u)

-- an outcome of one player
abbrev pub paying : List ℕ → Ratio → Outcome
paying name payoff = record { name = name; payoffs = payoff ∷ [] }

-- a game of the player "A"
abbrev pub game : List ℕ → Tree Node → List (Described SetKey InformationSet)
    → List (Described ℕ Outcome) → Game
game title tree sets outcomes = record {
  title = title;
  comment = [];
  players = codes "A" ∷ [];
  tree = tree;
  sets = sets;
  outcomes = outcomes;
}

abbrev pub half : Ratio
half = record { num = pos 1; den = 2 }

-- heads or tails
abbrev pub toss : List ℕ → InformationSet
toss name = record {
  name = name;
  actions = record { label = codes "h"; probability = Some half }
      ∷ record { label = codes "t"; probability = Some half } ∷ [];
}

abbrev pub described : {K D : Type 0} → K → D → Described K D
described key description = record { key = key; description = description }

-- ---- a set of chance met twice on a path, and an outcome used twice

abbrev pub five : Game
five = game (codes "five")
    (moves (set_of 0 9) None
    (two (moves (set_of 1 7) None (one (moves (set_of 0 9) None (two (ends None) (ends None)))))
    (moves (set_of 1 3) (Some 4) (one (ends (Some 4))))))
    (described (set_of 0 9) (toss (codes "n"))
    ∷ described (set_of 1 7) (choice (codes "i") (codes "L" ∷ []))
    ∷ described (set_of 1 3) (choice (codes "j") (codes "R" ∷ [])) ∷ [])
    (described 4 (paying (codes "w") (record { num = pos 1; den = 10 })) ∷ [])

-- the set of chance is described again with different spellings of its probabilities
abbrev pub five_file : List ℕ
five_file =
    codes "EFG 2 R \"five\" { \"A\" }\nc \"\" 9 \"n\" { \"h\" 0.5 \"t\" 1/2 } 0\n"
    ++ codes "p \"\" 1 7 \"i\" { \"L\" } 0\nc \"\" 9 \"n\" { \"h\" 1/2 \"t\" 0.50 } 0\n"
    ++ codes "t \"\" 0\nt \"\" 0\np \"\" 1 3 \"j\" { \"R\" } 4 \"w\" { 1e-1 }\nt \"\" 4\n"

-- ---- an outcome at an inner node, and a set with two nodes

abbrev pub paying_two : List ℕ → ℕ → ℕ → Outcome
paying_two name x y = record { name = name; payoffs = whole (pos x) ∷ whole (pos y) ∷ [] }

abbrev pub bonus : Game
bonus = record {
  title = codes "g";
  comment = [];
  players = codes "A" ∷ codes "B" ∷ [];
  tree =
      moves (set_of 0 1) None (two (moves (set_of 1 1) (Some 1) (two (ends (Some 2)) (ends None)))
      (moves (set_of 1 1) None (two (ends None) (ends (Some 3)))));
  sets = described (set_of 0 1) (toss (codes "n"))
      ∷ described (set_of 1 1) (choice (codes "i") (codes "L" ∷ codes "R" ∷ [])) ∷ [];
  outcomes = described 1 (paying_two (codes "bonus") 1 0) ∷ described 2 (paying_two (codes "x") 2 0)
      ∷ described 3 (paying_two (codes "y") 3 1) ∷ [];
}

abbrev pub bonus_file : List ℕ
bonus_file =
    codes "EFG 2 R \"g\" { \"A\" \"B\" }\nc \"\" 1 \"n\" { \"h\" 1/2 \"t\" 1/2 } 0\n"
    ++ codes "p \"\" 1 1 \"i\" { \"L\" \"R\" } 1 \"bonus\" { 1 0 }\nt \"\" 2 \"x\" { 2 0 }\n"
    ++ codes "t \"\" 0\np \"\" 1 1 0\nt \"\" 0\nt \"\" 3 \"y\" { 3 1 }\n"

-- ---- a player who forgets what they chose

abbrev pub forgetful : Game
forgetful = game (codes "w")
    (moves (set_of 1 1) None (two (moves (set_of 1 2) None (two (ends None) (ends None)))
    (moves (set_of 1 2) None (two (ends None) (ends None)))))
    (described (set_of 1 1) (choice (codes "i") (codes "a" ∷ codes "b" ∷ []))
    ∷ described (set_of 1 2) (choice (codes "j") (codes "c" ∷ codes "d" ∷ [])) ∷ [])
    []

abbrev pub forgetful_file : List ℕ
forgetful_file =
    codes "EFG 2 R \"w\" { \"A\" } p \"\" 1 1 \"i\" { \"a\" \"b\" } 0"
    ++ codes " p \"\" 1 2 \"j\" { \"c\" \"d\" } 0 t \"\" 0 t \"\" 0 p \"\" 1 2 0 t \"\" 0"
    ++ codes " t \"\" 0"

-- ---- a comment, the letter `D`, a comma after the last payoff, and an outcome that is described
-- twice

abbrev pub noted : Game
noted = record {
  title = codes "d";
  comment = codes "note";
  players = codes "A" ∷ [];
  tree = moves (set_of 1 1) None (two (ends (Some 1)) (ends (Some 1)));
  sets = described (set_of 1 1) (choice (codes "i") (codes "L" ∷ codes "R" ∷ [])) ∷ [];
  outcomes = described 1 (paying (codes "x") (whole (pos 5))) ∷ [];
}

abbrev pub noted_file : List ℕ
noted_file =
    codes "EFG 2 D \"d\" { \"A\" } \"note\"\np \"\" 1 1 \"i\" { \"L\" \"R\" } 0\n"
    ++ codes "t \"\" 1 \"x\" { 5, }\nt \"\" 1 \"x\" { 5 }\n"

-- ---- files that mean no game

-- a set that is used first without a description
abbrev pub undescribed_file : List ℕ
undescribed_file = codes "EFG 2 R \"m\" { \"A\" } p \"\" 1 1 0 t \"\" 0"

-- a set that is described again with a different action
abbrev pub mismatched_file : List ℕ
mismatched_file = codes
    "EFG 2 R \"m\" { \"A\" } p \"\" 1 1 \"i\" { \"L\" } 0 p \"\" 1 1 \"i\" { \"X\" } 0 t \"\" 0"

-- a player's number above the number of players
abbrev pub unknown_player_file : List ℕ
unknown_player_file = codes "EFG 2 R \"m\" { \"A\" } p \"\" 2 1 \"i\" { \"L\" } 0 t \"\" 0"

-- probabilities that add up to more than one
abbrev pub too_likely_file : List ℕ
too_likely_file =
    codes "EFG 2 R \"m\" { \"A\" } c \"\" 1 \"n\" { \"h\" 0.6 \"t\" 0.6 } 0 t \"\" 0 t \"\" 0"

-- a set with two actions, described again with another one, with fewer and with more
abbrev pub other_action_file : List ℕ
other_action_file =
    codes "EFG 2 R \"m\" { \"A\" } p \"\" 1 1 \"i\" { \"L\" \"R\" } 0 t \"\" 0 "
    ++ codes "p \"\" 1 1 \"i\" { \"L\" \"X\" } 0 t \"\" 0 t \"\" 0"

abbrev pub fewer_actions_file : List ℕ
fewer_actions_file =
    codes "EFG 2 R \"m\" { \"A\" } p \"\" 1 1 \"i\" { \"L\" \"R\" } 0 t \"\" 0 "
    ++ codes "p \"\" 1 1 \"i\" { \"L\" } 0 t \"\" 0"

abbrev pub more_actions_file : List ℕ
more_actions_file =
    codes "EFG 2 R \"m\" { \"A\" } p \"\" 1 1 \"i\" { \"L\" \"R\" } 0 t \"\" 0 "
    ++ codes "p \"\" 1 1 \"i\" { \"L\" \"R\" \"S\" } 0 t \"\" 0 t \"\" 0 t \"\" 0"

-- an outcome that is used first without a description
abbrev pub unpaid_file : List ℕ
unpaid_file = codes "EFG 2 R \"\" { } t \"\" 5"

-- a player's move although there are no players
abbrev pub nobody_file : List ℕ
nobody_file = codes "EFG 2 R \"\" { } p \"\" 1 1 \"i\" { \"L\" } 0 t \"\" 0"

-- a probability below zero, and probabilities that add to less than one
abbrev pub negative_file : List ℕ
negative_file =
    codes "EFG 2 R \"m\" { \"A\" } c \"\" 1 \"n\" { \"h\" -1/2 \"t\" 3/2 } 0 t \"\" 0 t \"\" 0"

abbrev pub too_unlikely_file : List ℕ
too_unlikely_file =
    codes "EFG 2 R \"m\" { \"A\" } c \"\" 1 \"n\" { \"h\" 1/2 \"t\" 1/4 } 0 t \"\" 0 t \"\" 0"

-- with M = 2^127 - 1, the common denominator of 1/M and 1/2 is 2M
abbrev pub unfitting_file : List ℕ
unfitting_file =
    codes
    "EFG 2 R \"m\" { \"A\" } c \"\" 1 \"n\" { \"h\" 1/170141183460469231731687303715884105727 "
    ++ codes "\"t\" 1/2 } 0 t \"\" 0 t \"\" 0"
