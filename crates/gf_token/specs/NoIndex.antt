-- Why bytes are not an index (this project's profile).
use Rattle.std.specs.Prelude.{ℕ, ◌≤◌, ◌^◌, List}
use Rattle.std.specs.Str.Parse.{digits_value}
use Rattle.gf_token.specs.Index.{IsDigits}
use Rattle.gf_token.specs.declared.index.IndexFault.{IndexFault}

-- why bytes are not an index
abbrev pub IsNoIndex : List ℕ → IndexFault → Type 0
IsNoIndex bytes IndexFault.NotDigits = ¬ (IsDigits bytes)
IsNoIndex bytes IndexFault.TooLarge = IsDigits bytes × (2 ^ 32 ≤ digits_value 10 bytes)
