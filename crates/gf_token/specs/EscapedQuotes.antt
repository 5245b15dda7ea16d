-- How quotes stand in the spelling of a label.
use Rattle.std.specs.Prelude.{◌≡◌, ℕ, List, [], ◌∷◌, ◌++◌}

-- the last of the bytes is a backslash
abbrev pub EndsInBackslash : List ℕ → Type 0
EndsInBackslash bytes = (front : List ℕ) × (bytes ≡ front ++ 92 ∷ [])

-- each `"` directly follows a backslash
abbrev pub EscapesQuotes : List ℕ → Type 0
EscapesQuotes bytes = (front back : List ℕ) → bytes ≡ front ++ 34 ∷ back → EndsInBackslash front
