-- Lists that agree up to a place.
use Rattle.gf_nfg.proofs.Common.{IsTable, get_or_from_slice_get, slice_eq-Decides, slice_get_within}
use Rattle.gf_nfg.proofs.Common.{Entry, Ratio, arith, entries_of, nat_eq, slice_get, take_more_same}
use Rattle.gf_nfg.proofs.Common.{List, Some, Table, map, rows, sym, take, ℕ, ◌&&◌, ◌+◌, ◌∙◌, ◌≡◌}
use Rattle.std.specs.Bool.{Decides}
use Rattle.std.specs.Ordering.{int_eq}
use Rattle.gf_nfg.proofs.lemmas.tables.Rows.{entries_again}

-- one more place
pub same_more : {A : Type 0} (xs ys : List A) (k : ℕ) (x y : A) → slice_get xs k ≡ Some x
    → slice_get ys k ≡ Some y → x ≡ y → take k xs ≡ take k ys → take (k + 1) xs ≡ take (k + 1) ys
same_more xs ys k x y h g e s =
    grind (arith, take_more_same xs ys k x, slice_get_within, get_or_from_slice_get)

-- what a test of two fractions says
pub Decides-ratio : (a b : Ratio) → Decides (int_eq a.num b.num && nat_eq a.den b.den) (a ≡ b)
Decides-ratio a b = grind arith

joined : (xs ys : List Entry) → map (λ e. e.profile) xs ≡ map (λ e. e.profile) ys
    → map (λ e. e.payoffs) xs ≡ map (λ e. e.payoffs) ys → xs ≡ ys
joined xs ys p q = sym (entries_again xs) ∙ (λ i. entries_of (p i) (q i)) ∙ entries_again ys

pub same_entries : (t u : Table)
    → IsTable t → IsTable u → t.strategies ≡ u.strategies → rows t ≡ rows u → t.entries ≡ u.entries
same_entries t u h g s r = grind (arith, joined)

pub ruleset same_by_payoffs = (slice_eq-Decides, Decides-ratio)
