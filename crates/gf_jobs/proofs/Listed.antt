-- Lines and names, one after another.
use Rattle.std.proofs.Common.{◌≡◌, ◌∷◌, ◌++◌, ◌<◌, [], IfSome, List, None, Option, Some, length, ℕ}
use Rattle.std.proofs.Common.{ap, arith, refl, ◌∙◌}
use Rattle.std.proofs.lemmas.List.{append_assoc}
use Rattle.std.proofs.lemmas.Option.{same_Some}
use Rattle.std.specs.Io.BufRead.{DropsThrough, drop_through, first_piece, strip_last}
use Rattle.std.specs.List.{flat_map}
use Rattle.gf_jobs.specs.Lines.{end_byte, lines_of, name_in, names_in}
use Rattle.gf_words.specs.declared.job.LineEnd.{LineEnd}

-- a byte before others that are not all
strip_cons : (byte x y : ℕ) (ys : List ℕ)
    → strip_last byte (x ∷ y ∷ ys) ≡ x ∷ strip_last byte (y ∷ ys)
strip_cons byte x y ys = grind arith

lines_by_first : (byte : ℕ) (xs : List ℕ) → 0 < length xs
    → lines_of byte xs ≡ first_piece byte xs ∷ lines_of byte (drop_through byte xs)
lines_by_first byte [] some = absurd (grind arith)
lines_by_first byte (x ∷ []) some = grind arith
lines_by_first byte (x ∷ y ∷ ys) some = grind (arith, lines_by_first byte (y ∷ ys), strip_cons)

-- of the bytes that were known at first, and those that are left, after some lines: the names so far,
-- and then those that are left, are those from before and then all
abbrev pub AreSoFar : LineEnd → (known left : Option (List ℕ)) → (byte : ℕ)
    → (old names : List (List ℕ)) → Type 0
AreSoFar end known left byte old names = IfSome known (λ bytes. (rest : List ℕ) × (byte ≡ end_byte end)
    × (left ≡ Some rest) × (names ++ names_in end rest ≡ old ++ names_in end bytes))

pub none_yet : (end : LineEnd) (known left : Option (List ℕ)) (byte : ℕ) (old : List (List ℕ))
    → byte ≡ end_byte end → left ≡ known → AreSoFar end known left byte old old
none_yet end (Some bytes) left byte old ends is = (bytes, ends, is, refl)
none_yet end None left byte old ends is = tt

pub one_more : (end : LineEnd) (known left next : Option (List ℕ)) (byte still : ℕ)
    (old names after : List (List ℕ)) (line : List ℕ) → still ≡ byte
    → IfSome left (λ xs. (0 < length xs) × (line ≡ first_piece byte xs))
    → DropsThrough left next byte → after ≡ names ++ name_in end line
    → AreSoFar end known left byte old names → AreSoFar end known next still old after
one_more end None left next byte still old names after line same first drops more so_far = tt
one_more end (Some bytes) None next byte still old names after line same first drops more
    (rest, ends, is, all) = absurd cc
one_more end (Some bytes) (Some xs) next byte still old names after line same first drops more
    (rest, ends, is, all) =
    let by_first = ap (flat_map (name_in end)) (lines_by_first byte xs first.0) in (
      drop_through byte xs,
      same ∙ ends,
      drops,
      grind (arith, append_assoc, same_Some, by_first, first.1, ends, is, all, more),
    )
