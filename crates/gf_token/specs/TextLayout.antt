-- How canonical texts are laid out.
use Rattle.std.specs.Prelude.{◌≡◌, ℕ, List, [], ◌∷◌, ◌++◌, codes, length, take}
use Rattle.std.specs.List.{join_with_byte, flat_map}

-- tokens joined by one space
abbrev pub spaced : List (List ℕ) → List ℕ
spaced tokens = join_with_byte 32 tokens

-- a list in braces, `{ }` if it is empty
abbrev pub list_text : List (List ℕ) → List ℕ
list_text items = spaced (codes "{" ∷ (items ++ codes "}" ∷ []))

abbrev pub quoted : List ℕ → List ℕ
quoted label = 34 ∷ (label ++ 34 ∷ [])

-- each line ends in one line feed
abbrev pub lines_text : List (List ℕ) → List ℕ
lines_text lines = flat_map (λ line. line ++ 10 ∷ []) lines

-- what was in a vector is still at its front
abbrev pub Keeps : List ℕ → List ℕ → Type 0
Keeps old new = take (length old) new ≡ old

-- each after a space
abbrev pub others_text : List (List ℕ) → List ℕ
others_text [] = []
others_text (item ∷ items) = 32 ∷ (item ++ others_text items)
