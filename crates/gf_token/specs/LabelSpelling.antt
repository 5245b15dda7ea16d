-- How a label is spelled between its quotes.
use Rattle.std.specs.Prelude.{◌≡◌, ℕ, Bool, ◌&&◌, ◌||◌, not, List, [], ◌∷◌, true, ◌==◌}

-- after the byte `before`, each `"` directly follows a backslash, and the last byte is not one
abbrev pub is_spelling_after : ℕ → List ℕ → Bool
is_spelling_after before [] = not (before == 92)
is_spelling_after before (b ∷ bytes) = (not (b == 34) || before == 92) && is_spelling_after b bytes

-- a label's spelling, after its opening quote
abbrev pub is_spelling : List ℕ → Bool
is_spelling bytes = is_spelling_after 34 bytes

-- bytes that spell a label
abbrev pub IsLabel : List ℕ → Type 0
IsLabel bytes = is_spelling bytes ≡ true
