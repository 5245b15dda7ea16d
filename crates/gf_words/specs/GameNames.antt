-- The names of game files.
use Rattle.std.specs.Prelude.{◌||◌, ◌-◌, ℕ, Bool, List, codes, drop, length}
use Rattle.std.specs.Str.{str_eq_ignore_ascii_case}

-- a name's last four characters are `.efg` or `.nfg`, in upper or lower case
abbrev pub is_game_name : List ℕ → Bool
is_game_name name = let end = drop (length name - 4) name in
    str_eq_ignore_ascii_case end (codes ".efg") || str_eq_ignore_ascii_case end (codes ".nfg")
