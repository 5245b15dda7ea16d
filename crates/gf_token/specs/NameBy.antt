-- What counts of a name.
use Rattle.std.specs.Prelude.{ℕ, List, []}
use Rattle.gf_token.specs.declared.names.Names.{Names}

abbrev pub name_by : Names → List ℕ → List ℕ
name_by Names.Kept name = name
name_by Names.Aside name = []
