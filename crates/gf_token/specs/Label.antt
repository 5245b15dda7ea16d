-- What a label is, to its callers.
use Rattle.std.specs.Prelude.{ℕ, List}
use Rattle.gf_token.specs.declared.label.Label.{Label}

-- the bytes between a label's quotes
abbrev pub label_of : Label → List ℕ
label_of label = label.raw.now
