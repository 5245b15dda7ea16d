-- Worked games: a canonical text, and which of them are the same.
use Rattle.std.specs.Prelude.{ℕ, pos, List, [], ◌∷◌, ◌++◌, codes, Some, None}
use Rattle.gf_fraction.specs.Ratio.{whole}
use Rattle.gf_tree.specs.Tree.Tree.{branch}
use Rattle.gf_tree.specs.Description.{set_of}
use Rattle.gf_tree.specs.Game.{Game}
use Rattle.gf_tree.specs.WorkedTrees.{moves, ends, choice, toss, described, one, two, paying, game}

-- ---- one game by many numbers

-- the game "five" by these numbers of its set of chance, of its sets "i" and "j", and of its
-- outcome
abbrev pub numbered_five : ℕ → ℕ → ℕ → ℕ → Game
numbered_five n i j w = game (codes "five")
    (moves (set_of 0 n) None
    (two (moves (set_of 1 i) None (one (moves (set_of 0 n) None (two (ends None) (ends None)))))
    (moves (set_of 1 j) (Some w) (one (ends (Some w))))))
    (described (set_of 0 n) (toss (codes "n"))
    ∷ described (set_of 1 i) (choice (codes "i") (codes "L" ∷ []))
    ∷ described (set_of 1 j) (choice (codes "j") (codes "R" ∷ [])) ∷ [])
    (described w (paying (codes "w") (record { num = pos 1; den = 10 })) ∷ [])

-- by its first-use numbers
abbrev pub five_text : List ℕ
five_text =
    codes "EFG 2 R \"five\" { \"A\" }\n\"\"\n\nc \"\" 1 \"n\" { \"h\" 1/2 \"t\" 1/2 } 0\n"
    ++ codes "p \"\" 1 1 \"i\" { \"L\" } 0\nc \"\" 1 0\nt \"\" 0\nt \"\" 0\n"
    ++ codes "p \"\" 1 2 \"j\" { \"R\" } 1 \"w\" { 1/10 }\nt \"\" 1\n"

-- the game "bonus", which has these numbers
abbrev pub bonus_text : List ℕ
bonus_text =
    codes "EFG 2 R \"g\" { \"A\" \"B\" }\n\"\"\n\n"
    ++ codes "c \"\" 1 \"n\" { \"h\" 1/2 \"t\" 1/2 } 0\n"
    ++ codes "p \"\" 1 1 \"i\" { \"L\" \"R\" } 1 \"bonus\" { 1 0 }\nt \"\" 2 \"x\" { 2 0 }\n"
    ++ codes "t \"\" 0\np \"\" 1 1 0\nt \"\" 0\nt \"\" 3 \"y\" { 3 1 }\n"

-- without players, and without a name
abbrev pub nobody : Game
nobody =
    record { title = []; comment = []; players = []; tree = ends None; sets = []; outcomes = [] }

abbrev pub nobody_text : List ℕ
nobody_text = codes "EFG 2 R \"\" { }\n\"\"\n\nt \"\" 0\n"

-- ---- one information set and two

-- the player does not see how the coin fell
abbrev pub unseen : Game
unseen = game (codes "s")
    (moves (set_of 0 1) None
    (two (moves (set_of 1 1) None (one (ends None))) (moves (set_of 1 1) None (one (ends None)))))
    (described (set_of 0 1) (toss (codes "n"))
    ∷ described (set_of 1 1) (choice (codes "i") (codes "L" ∷ [])) ∷ [])
    []

-- the player sees it, and both sets of the player have equal descriptions
abbrev pub seen : Game
seen = game (codes "s")
    (moves (set_of 0 1) None
    (two (moves (set_of 1 1) None (one (ends None))) (moves (set_of 1 2) None (one (ends None)))))
    (described (set_of 0 1) (toss (codes "n"))
    ∷ described (set_of 1 1) (choice (codes "i") (codes "L" ∷ []))
    ∷ described (set_of 1 2) (choice (codes "i") (codes "L" ∷ [])) ∷ [])
    []

-- ---- one outcome and two

-- both actions lead to one outcome; with these names of the game, the first node, the set, the
-- first action and the outcome
abbrev pub one_prize : List ℕ → List ℕ → List ℕ → List ℕ → List ℕ → Game
one_prize title node set label outcome = game title
    (branch (record { name = node; set = Some (set_of 1 1); outcome = None })
    (two (ends (Some 1)) (ends (Some 1))))
    (described (set_of 1 1) (choice set (label ∷ codes "R" ∷ [])) ∷ [])
    (described 1 (paying outcome (whole (pos 5))) ∷ [])

abbrev pub plain_prize : Game
plain_prize = one_prize (codes "s") [] (codes "i") (codes "L") (codes "x")

abbrev pub renamed_prize : Game
renamed_prize = one_prize (codes "q") (codes "w") (codes "k") (codes "L") (codes "v")

abbrev pub lower_case_prize : Game
lower_case_prize = one_prize (codes "s") [] (codes "i") (codes "l") (codes "x")

-- the actions lead to two outcomes with equal descriptions
abbrev pub two_prizes : Game
two_prizes = game (codes "s")
    (moves (set_of 1 1) None (two (ends (Some 1)) (ends (Some 2))))
    (described (set_of 1 1) (choice (codes "i") (codes "L" ∷ codes "R" ∷ [])) ∷ [])
    (described 1 (paying (codes "x") (whole (pos 5)))
    ∷ described 2 (paying (codes "x") (whole (pos 5))) ∷ [])

-- nobody moves: with the null outcome, and with an outcome that has no name and pays zero
abbrev pub no_outcome : Game
no_outcome = game (codes "s") (ends None) [] []

abbrev pub zero_outcome : Game
zero_outcome = game (codes "s") (ends (Some 1)) [] (described 1 (paying [] (whole (pos 0))) ∷ [])
