-- The reading of an index, as a function, is the index that a text is.
use Rattle.std.proofs.Common.{Option, arith, List, None, Some, refl, true, ◌<◌, ◌∷◌, ◌≡◌, [], ℕ}
use Rattle.std.specs.List.{list_all}
use Rattle.std.specs.Char.{is_ascii_digit}
use Rattle.std.specs.Str.Parse.{AllDigits}
use Rattle.std.proofs.lemmas.Bool.{and_parts}
use Rattle.std.proofs.lemmas.Bool.Decides.{nat_tests}
use Rattle.gf_fraction.proofs.Offered.{ascii_from_digit, digit_from_ascii}
use Rattle.gf_token.specs.Index.{ReadsIndex, IsIndex}
use Rattle.gf_token.specs.NoIndex.{IsNoIndex}
use Rattle.gf_token.specs.declared.index.IndexFault.{IndexFault}
use Rattle.gf_token.specs.inner.Indices.{count_of, index_of}

all_digits : (ds : List ℕ) → list_all is_ascii_digit ds ≡ true → AllDigits 10 ds
all_digits [] h = tt
all_digits (c ∷ cs) h = let k = and_parts (is_ascii_digit c) (list_all is_ascii_digit cs) h in (
  digit_from_ascii c k.0,
  all_digits cs k.1,
)

digits_all : (ds : List ℕ) → AllDigits 10 ds → list_all is_ascii_digit ds ≡ true
digits_all [] h = refl
digits_all (c ∷ cs) h = rw (ascii_from_digit c h.0, digits_all cs h.1) refl

-- each index is read
pub index_again : (bs : List ℕ) (n : ℕ) → IsIndex bs n → index_of bs ≡ Some n
unfolding index_of
index_again bs n h = grind (arith, nat_tests, digits_all)

-- what is read is an index
pub index_is : (bs : List ℕ) (n : ℕ) → index_of bs ≡ Some n → IsIndex bs n
unfolding index_of
index_is bs n e = grind (arith, nat_tests, and_parts, all_digits)

-- what is not an index is none
pub no_index : (bs : List ℕ) (fault : IndexFault) → IsNoIndex bs fault → (n : ℕ) → ¬ (IsIndex bs n)
no_index bs fault h n k = grind arith

-- so whatever reading an index answers is what is computed
pub index_read : (bs : List ℕ) (o : Option ℕ) → ReadsIndex bs o → o ≡ index_of bs
index_read bs o h = grind (arith, index_again, index_is)

pub index_none : (bs : List ℕ) → ((n : ℕ) → ¬ (IsIndex bs n)) → index_of bs ≡ None
index_none bs none = grind (arith, index_is)

pub ruleset index_answers = (index_read, index_again, index_none)

-- it has one answer
pub one_index : (bs : List ℕ) → (read : Option ℕ) × ReadsIndex bs read
    × ((other : Option ℕ) → ReadsIndex bs other → other ≡ read)
one_index bs = (index_of bs, (grind (arith, index_is, index_again)), index_read bs)

-- the same of counts
pub count_is : (bs : List ℕ) (n : ℕ) → count_of bs ≡ Some n → (0 < n) × IsIndex bs n
count_is bs n e = let k : (0 < n) × ((index_of bs) ≡ Some n) = grind arith in (k.0, index_is bs n k.1)

pub count_again : (bs : List ℕ) (n : ℕ) → 0 < n → IsIndex bs n → count_of bs ≡ Some n
count_again bs n h k = rw (index_again bs n k) (grind arith)
