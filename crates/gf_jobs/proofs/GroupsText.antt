-- The text of groups, while groups are visited.
use Rattle.std.proofs.Common.{◌≡◌, ◌∙◌, ◌++◌, ◌∷◌, [], ◌+◌, ◌<◌, ◌≤◌, ℕ, Bool, true, false, List}
use Rattle.std.proofs.Common.{append_assoc, arith, drop, filter, get_or, length, map, not, sym, refl}
use Rattle.std.specs.Prelude.{if◌then◌else◌, ◌&&◌}
use Rattle.std.proofs.lemmas.Bool.{and_right, le-ltb, lt-ltb}
use Rattle.std.proofs.lemmas.List.{append-nil, drop_all, get_or-map, length-map}
use Rattle.std.specs.List.{flat_map, list_any}
use Rattle.gf_words.specs.declared.job.LineEnd.{LineEnd}
use Rattle.gf_jobs.specs.Duplicates.{groups_text, has_two, name_lines}
use Rattle.gf_jobs.specs.Lines.{end_byte}
use Rattle.gf_jobs.proofs.Going.{left_at}

-- the text of these groups, if they are the first ones, and if they come after others
abbrev left_text : LineEnd → Bool → List (List (List ℕ)) → List ℕ
left_text end true groups = groups_text end groups
left_text end false groups = flat_map (λ names. end_byte end ∷ name_lines end names) groups

begins : (end : LineEnd) (apart : Bool) (first : List (List ℕ)) (rest : List (List (List ℕ)))
    → left_text end apart (first ∷ rest)
    ≡ (if apart then [] else end_byte end ∷ []) ++ name_lines end first ++ left_text end false rest
begins end apart first rest = grind arith

module _ (end : LineEnd) (names : List (List (List ℕ))) where
  -- the text so far is that of the groups so far, and says whether any of them has two names
  pub record IsOn (at : ℕ) (text : List ℕ) (apart : Bool) : Type 0 where
    pub told : text ++ left_text end apart (filter has_two (drop at names))
        ≡ groups_text end (filter has_two names)
    pub so_far : (apart && not (list_any has_two (drop at names))) ≡ not (list_any has_two names)

  pub at_end : (at : ℕ) (text : List ℕ) (apart : Bool) → IsOn at text apart → length names ≤ at
      → (apart ≡ not (list_any has_two names)) × (text ≡ groups_text end (filter has_two names))
  at_end at text apart on past = grind (arith, drop_all, append-nil)

  -- the next group, of the vectors that keep them
  module _ {V : Type 0} (F : V → List (List ℕ)) (items : List V) (are : names ≡ map F items)
      (at : ℕ) (item : V) (within : at < length items) (is : item ≡ get_or items at item)
      (text : List ℕ) (apart : Bool) (on : IsOn at text apart) where
    left : drop at names ≡ F item ∷ drop (at + 1) names
    left = left_at names at (F item) (rw (are, length-map items F) within)
        (rw (are, get_or-map F items at item (F item) within, ← is) refl)

    pub passed : length (F item) < 2 → IsOn (at + 1) text apart
    passed few = grind (arith, le-ltb, left)

    pub added : 2 ≤ length (F item) → (new : List ℕ)
        → new ≡ text ++ (if apart then [] else end_byte end ∷ []) ++ name_lines end (F item)
        → IsOn (at + 1) new false
    added many new e =
        let two : has_two (F item) ≡ true = lt-ltb 1 (length (F item)) (omega (arith, many)) in
        let before : List ℕ = if apart then [] else end_byte end ∷ [] in
        let rest = left_text end false (filter has_two (drop (at + 1) names)) in
        record {
          told = rw (
            e,
            append_assoc text before (name_lines end (F item)),
            append_assoc text (before ++ name_lines end (F item)) rest,
            ← begins end apart (F item) (filter has_two (drop (at + 1) names)),
          ) (rw (left, two) at on.told);
          so_far = sym (and_right apart false refl) ∙ rw (left, two) at on.so_far;
        }
