-- Labels that are put together: one after another, joined to one, or counted.
use Rattle.gf_nfg.proofs.Common
use Common.{get_or_from_slice_get, is_spelling_after, slice_get_within, join_with_byte, length-drop}
use Common.{counted_labels, length-append, append_assoc, AreSpellings, length-take, append-nil, ◌≡◌}
use Common.{map-append, slice_get, and_parts, take_more, nat_tests, label_of, and_from, IsLabel, ap}
use Common.{RisesTo, decimal, pieces, length, arith, Label, false, true, List, ◌++◌, Some, take, []}
use Common.{refl, ◌==◌, ◌+◌, ◌∷◌, map, ◌∙◌, sym, sum, ◌<◌, ◌^◌, ℕ}
use Rattle.gf_nfg.specs.inner.TableParts.{dashed}
use Rattle.std.specs.Str.Parse.{AllDigits}
use Rattle.std.proofs.lemmas.Fmt.{decimal_is_IsNumeral_wide}
use Rattle.gf_nfg.proofs.lemmas.tables.Lists.{sum-cons}
use Rattle.gf_nfg.proofs.lemmas.tables.NumbersInTurn.{numbers_joined}
use Rattle.gf_nfg.proofs.lemmas.tables.Pieces.{rises_within}

-- ---- how long they are

-- the pieces of a list are as long as the list
pub pieces_size : {A : Type 0} (from : ℕ) (ends : List ℕ) (items : List A)
    → RisesTo (length items) from ends
    → from + sum (map length (pieces from ends items)) ≡ length items
pieces_size from [] items h = omega (arith, h)
pieces_size from (end ∷ ends) items h =
    grind (arith, length-take, length-drop, rises_within, sum-cons, pieces_size end ends items h.1)

-- ---- how they are spelled

pub labels_spelled : (ls : List Label) → AreSpellings (map label_of ls)
labels_spelled [] = tt
labels_spelled (l ∷ ls) = (l.spelled, labels_spelled ls)

past_dash : (ys : List ℕ) → is_spelling_after 34 ys ≡ true → is_spelling_after 45 ys ≡ true
past_dash [] h = refl
past_dash (y ∷ ys) h = h

joined_after : (before : ℕ) (xs ys : List ℕ) → is_spelling_after before xs ≡ true → IsLabel ys
    → is_spelling_after before (xs ++ 45 ∷ ys) ≡ true
joined_after before [] ys h l = past_dash ys l
joined_after before (x ∷ xs) ys h l = grind (arith, and_from, and_parts, joined_after x xs ys)

-- labels that are joined by a dash make a label
pub joined_label : (labels : List (List ℕ)) → AreSpellings labels
    → IsLabel (join_with_byte 45 labels)
joined_label (x ∷ y ∷ labels) h = grind (arith, joined_after, joined_label (y ∷ labels) h.1)
joined_label labels h = grind arith

-- ---- labels that are joined, from any place on

abbrev pub dashes : List Label → List ℕ
dashes labels = dashed (map label_of labels)

pub join_dashed : (label : List ℕ) (labels : List (List ℕ))
    → join_with_byte 45 (label ∷ labels) ≡ label ++ dashed labels
join_dashed label [] = sym (append-nil label)
join_dashed label (next ∷ labels) = grind (arith, join_dashed next labels)

pub ruleset joined_labels = (append_assoc, join_dashed, joined_label, labels_spelled)

-- ---- one more label

pub one_taken_at : {A : Type 0} (others : List A) (at : ℕ) (x : A) → slice_get others at ≡ Some x
    → take (at + 1) others ≡ take at others ++ x ∷ []
one_taken_at others at x found =
    take_more others at x (slice_get_within others at x found)
    ∙ ap (λ y. take at others ++ y ∷ []) (get_or_from_slice_get others at x x found)

pub ruleset one_label_more = (append_assoc, one_taken_at)

-- ---- numbers as labels

digits_label : (before : ℕ) (bytes : List ℕ) → (before == 92) ≡ false → AllDigits 10 bytes
    → is_spelling_after before bytes ≡ true
digits_label before [] e h = rw e refl
digits_label before (b ∷ bytes) e h = grind (arith, nat_tests, digits_label b bytes)

-- a number is the spelling of a label
pub decimal_label : (n : ℕ) → n < 10 ^ 64 → IsLabel (decimal n)
decimal_label n h = digits_label 34 (decimal n) refl (decimal_is_IsNumeral_wide n h).0.1

pub counted_more : (n : ℕ)
    → counted_labels (n + 1) ≡ counted_labels n ++ decimal (n + 1) ∷ []
counted_more n = grind (arith, map-append, numbers_joined 1 n 1)

pub ruleset one_count_more = (append_assoc, counted_more, decimal_label, length-append)
