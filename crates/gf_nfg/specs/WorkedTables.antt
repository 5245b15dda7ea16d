-- Worked tables, files that mean them, and their canonical texts.
use Rattle.std.specs.Prelude.{ℕ, List, [], ◌∷◌, ◌++◌, codes, pos}
use Rattle.gf_fraction.specs.Ratio.{whole}
use Rattle.gf_nfg.specs.Table.{Entry, Table}

-- whole payoffs for two players
abbrev pub two_paid : List ℕ → ℕ → ℕ → Entry
two_paid profile x y = record { profile = profile; payoffs = whole (pos x) ∷ whole (pos y) ∷ [] }

-- two players, one with three strategies and one with two
abbrev pub selten : Table
selten = record {
  title = codes "Selten";
  comment = [];
  players = codes "Player 1" ∷ codes "Player 2" ∷ [];
  strategies = (codes "1" ∷ codes "2" ∷ codes "3" ∷ []) ∷ (codes "1" ∷ codes "2" ∷ []) ∷ [];
  entries = two_paid (1 ∷ 1 ∷ []) 1 1 ∷ two_paid (2 ∷ 1 ∷ []) 0 2 ∷ two_paid (3 ∷ 1 ∷ []) 0 2
      ∷ two_paid (1 ∷ 2 ∷ []) 1 1 ∷ two_paid (2 ∷ 2 ∷ []) 0 3 ∷ two_paid (3 ∷ 2 ∷ []) 2 0 ∷ [];
}

-- in payoff version, with counts and no comment
abbrev pub selten_by_counts : List ℕ
selten_by_counts =
    codes "NFG 1 R \"Selten\" { \"Player 1\" \"Player 2\" } { 3 2 } 1 1 0 2 0 2 1 1 0 3 2 0"

-- in outcome version, with labels, a comment, and some commas
abbrev pub selten_by_outcomes : List ℕ
selten_by_outcomes =
    codes "NFG 1 D \"Selten\" { \"Player 1\" \"Player 2\" } "
    ++ codes "{ { \"1\" \"2\" \"3\" } { \"1\" \"2\" } } \"\" "
    ++ codes "{ { \"a\" 1, 1, } { \"b\" 0, 2 } { \"c\" 0 2 } { \"d\" 1 1 } { \"e\" 0 3 } "
    ++ codes "{ \"f\" 2 0 } } 1 2 3 4 5 6"

abbrev pub selten_text : List ℕ
selten_text =
    codes "NFG 1 R \"Selten\" { \"Player 1\" \"Player 2\" }\n"
    ++ codes "{ { \"1\" \"2\" \"3\" } { \"1\" \"2\" } }\n\"\"\n\n"
    ++ codes "1 1\n0 2\n0 2\n1 1\n0 3\n2 0\n"

-- without players there is one profile
abbrev pub no_players : Table
no_players = record {
  title = [];
  comment = [];
  players = [];
  strategies = [];
  entries = record { profile = []; payoffs = [] } ∷ [];
}

abbrev pub no_players_text : List ℕ
no_players_text = codes "NFG 1 R \"\" { }\n{ }\n\"\"\n\n\n"
