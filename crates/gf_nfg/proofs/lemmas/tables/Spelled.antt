-- What a file means is a table that a file can hold.
use Rattle.gf_nfg.proofs.Common
use Common.{AllByRecursion, IsOutcomeBody, numbers_from, IsPayoffBody, IsSpellable, IsLabelList}
use Common.{SpellsTable, IsFraction, all_joined, all_mapped, replicate, IsSpelled, all_parts, ◌^◌}
use Common.{flat_map, all_both, Sentence, IsCount, decimal, IsLabel, Closing, IsTable, length, []}
use Common.{braced, all_at, Table, subst, arith, Token, Ratio, whole, zero, List, ◌++◌, Text, ◌<◌}
use Common.{Each, rows, Pays, ◌∷◌, map, inl, inr, ◌⊎◌, suc, pos, ◌+◌, ℕ}
use Rattle.gf_token.proofs.Offered.{AllSpelled, all_spelled, braced_spelled, comment_spelled}
use Rattle.gf_fraction.proofs.Offered.{whole_fraction}
use Rattle.gf_nfg.proofs.lemmas.tables.LabelLists.{decimal_label}

-- ---- labels

counted_labels : (first n : ℕ) → first + n < 10 ^ 64
    → AllByRecursion IsLabel (map decimal (numbers_from first n))
counted_labels first zero h = tt
counted_labels first (suc n) h = grind (arith, decimal_label, counted_labels (first + 1) n)

texts_spelled : (names : List (List ℕ)) (rest : List Token)
    → AllSpelled (braced (map Text names) ++ rest) → AllByRecursion IsLabel names × AllSpelled rest
texts_spelled names rest h = grind (arith, braced_spelled (map Text names) rest h, all_mapped)

label_lists_spelled : (strategies : List (List (List ℕ))) (inner : List Token)
    → Each IsLabelList inner strategies → AllSpelled inner
    → AllByRecursion (λ names. AllByRecursion IsLabel names) strategies
label_lists_spelled [] inner h all = tt
label_lists_spelled (names ∷ strategies) inner h all =
    grind (arith, texts_spelled, label_lists_spelled strategies h.1 h.4)

count_spelled : (tokens : List Token) (names : List (List ℕ)) → IsCount tokens names
    → AllByRecursion IsLabel names
count_spelled tokens names h = grind (arith, counted_labels)

-- what holds for each group's value holds for each
each_value : {A : Type 0} (P : List Token → A → Type 0) (Q : A → Type 0)
    → ((tokens : List Token) (x : A) → P tokens x → Q x) → (xs : List A) (tokens : List Token)
    → Each P tokens xs → AllByRecursion Q xs
each_value P Q f [] tokens h = tt
each_value P Q f (x ∷ xs) tokens h = (f h.0 x h.3, each_value P Q f xs h.1 h.4)

-- ---- payoffs

zeros : (n : ℕ) → AllByRecursion IsFraction (replicate n (whole (pos 0)))
zeros zero = tt
zeros (suc n) = (whole_fraction 0 (omega arith), zeros n)

abbrev AreFractions : List Ratio → Type 0
AreFractions row = AllByRecursion IsFraction row

paid : (players k : ℕ) (outcomes : List (List Ratio)) (row : List Ratio)
    → AllByRecursion AreFractions outcomes → Pays players outcomes k row → AreFractions row
paid players k outcomes row all h = grind (arith, zeros, all_at)

payoffs_spelled : (players : ℕ) (tokens : List Token) (rs : List (List Ratio))
    → (IsPayoffBody tokens rs ⊎ IsOutcomeBody players tokens rs) → AllByRecursion AreFractions rs
payoffs_spelled players tokens rs (inl h) = grind (arith, each_value)
payoffs_spelled players tokens rs (inr h) =
    let outcomes : AllByRecursion AreFractions h.outcomes = grind (arith, each_value) in
    grind (arith, each_value, paid)

-- ---- the table

is_spellable : (tokens : List Token) (t : Table) → AllSpelled tokens → Sentence tokens t
    → IsSpellable t
is_spellable tokens t all h =
    let whole = subst AllSpelled h.parts all in
    let heading = texts_spelled t.players (h.strategies ++ (h.comment ++ h.body)) whole.1.1.1.1 in
    let more = all_parts IsSpelled h.strategies (h.comment ++ h.body) heading.1 in
    let inner = h.is_strategies.0 in
    let inside =
    (all_parts IsSpelled inner (Closing ∷ []) (subst AllSpelled h.is_strategies.1 more.0).1).0 in
    let names =
    elim h.is_strategies.2 as (λ x. AllByRecursion (λ ls. AllByRecursion IsLabel ls) t.strategies) [
      | inl counts ↦ each_value IsCount (λ ls. AllByRecursion IsLabel ls) count_spelled t.strategies
          inner counts
      | inr lists ↦ label_lists_spelled t.strategies inner lists inside
    ] in
    let labels = all_both IsLabel t.players (flat_map (λ ls. ls) t.strategies) heading.0
    (all_joined IsLabel t.strategies names) in
    let said = comment_spelled h.comment t.comment h.is_comment
    (all_parts IsSpelled h.comment h.body more.1).0 in
    record {
      labels_spelled = (whole.1.1.1.0, (said, labels));
      payoffs_are_fractions = payoffs_spelled (length t.players) h.body (rows t) h.is_body;
    }

pub spelled_is_spellable : (bytes : List ℕ) (t : Table) → SpellsTable bytes t
    → IsTable t × IsSpellable t
spelled_is_spellable bytes t h = search (arith, is_spellable, all_spelled)
