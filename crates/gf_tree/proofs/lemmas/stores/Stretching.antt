-- Stretches of a list of items, if items or entries are appended.
use Rattle.gf_tree.proofs.Common.{AllByRecursion, length-take-le, take-append-le, drop-append-le, ℕ}
use Rattle.gf_tree.proofs.Common.{AreStretches, length-drop, slice_range, length, arith, List, ◌++◌}
use Rattle.gf_tree.proofs.Common.{take, drop, refl, ◌≡◌, ◌≤◌, ◌∷◌, map, sym, ◌∙◌, [], ap}
use Rattle.std.proofs.lemmas.List.{take-append-drop}

same_part : {T : Type 0} (items more : List T) (i j : ℕ) → i ≤ j → j ≤ length items
    → slice_range (items ++ more) i j ≡ slice_range items i j
same_part items more i j ordered within = grind (arith, drop-append-le, take-append-le, length-drop)

abbrev Ends : {E : Type 0} → (E → ℕ) → (E → ℕ) → ℕ → E → Type 0
Ends start end from e = (start e ≤ end e) × (end e ≤ from)

pub up_to : {E : Type 0} (start end : E → ℕ) (entries : List E) (from to : ℕ) → from ≤ to
    → AllByRecursion (Ends start end from) entries → AllByRecursion (Ends start end to) entries
up_to start end [] from to more all = all
up_to start end (e ∷ es) from to more all =
    ((all.0.0, omega (arith, all.0.1)), up_to start end es from to more all.1)

module _ {E T : Type 0} (start end : E → ℕ) where
  -- what is made from the entries' stretches
  abbrev pub made : {D : Type 0} → (E → List T → D) → List T → E → D
  made make items e = make e (slice_range items (start e) (end e))

  same_made : {D : Type 0} (make : E → List T → D) (entries : List E) (items more : List T)
      (from : ℕ) → AllByRecursion (Ends start end from) entries → from ≤ length items
      → map (made make (items ++ more)) entries ≡ map (made make items) entries
  same_made make [] items more from all within = refl
  same_made make (e ∷ es) items more from all within =
      grind (arith, same_part, same_made make es items more from all.1 within)

  -- items after them change nothing in it
  pub items_after : {D : Type 0} (make : E → List T → D) (entries : List E) (items more : List T)
      (from : ℕ) → AreStretches start end entries items from
      → map (made make (items ++ more)) entries ≡ map (made make items) entries
  items_after make entries items more from are = grind (arith, same_made)

  pub items_until : {D : Type 0} (make : E → List T → D) (entries : List E) (items : List T)
      (from last : ℕ) → AreStretches start end entries items from → from ≤ last
      → last ≤ length items
      → map (made make (take last items)) entries ≡ map (made make items) entries
  items_until make entries items from last are behind within =
      sym (items_after make entries (take last items) (drop last items) from
      (grind (arith, length-take-le)))
      ∙ ap (λ (xs : List T). map (made make xs) entries) (take-append-drop last items)

pub part_until : {T : Type 0} (items : List T) (i j last : ℕ) → i ≤ j → j ≤ last
    → last ≤ length items → slice_range (take last items) i j ≡ slice_range items i j
part_until items i j last ordered ends within =
    sym (same_part (take last items) (drop last items) i j ordered
    (omega (arith, ends, length-take-le last items within)))
    ∙ ap (λ (xs : List _). slice_range xs i j) (take-append-drop last items)
