-- How many profiles a table may have.
use Rattle.std.specs.Prelude.{ℕ, ◌≤◌, length}
use Rattle.gf_nfg.specs.Table.{Table}

-- this project's profile
abbrev pub profile_limit : ℕ
profile_limit = 1048576

-- a table has no more profiles than allowed
abbrev pub IsWithinLimit : Table → Type 0
IsWithinLimit t = length t.entries ≤ profile_limit
