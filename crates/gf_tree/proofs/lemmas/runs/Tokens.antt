-- What the lemmas on runs of the machine share.
use Rattle.gf_tree.proofs.Common.{Decides-eqb, run_tokens, same_ratio, pointwise, same_text, Result}
use Rattle.gf_tree.proofs.Common.{Position, then_run, Content, nat_eq, Ratio, State, Token, arith}
use Rattle.gf_tree.proofs.Common.{subst, Bool, List, cond, refl, true, Err, Why, ◌≡◌, Ok, ℕ}
use Rattle.gf_token.specs.Offered as any_format
use Rattle.gf_tree.specs.inner.Machine.{at_end, next}
use Rattle.std.proofs.lemmas.Bool.{and_parts}
use Rattle.std.proofs.lemmas.Slice.Eq.{slice_eq-Decides}
use Rattle.std.proofs.lemmas.Bool.Decides.{Decides-int_eq}

-- from a position and what was read before, the tokens to come are read, and this is what was read
abbrev pub Reads : Position → Content → List Token → Content → Type 0
Reads q c ts r = run_tokens q c ts ≡ Ok r

abbrev pub run_on : List Token → State → Result Content Why
run_on ts s = any_format.run next at_end s ts

abbrev pub ok_read : Content → Result Content Why
ok_read r = Ok r

-- what is refused is not read
abbrev pub IsErr : Result Content Why → Type 0
IsErr (Ok r) = ⊥
IsErr (Err why) = Unit {0}

pub refused : (o : Result Content Why) (r : Content) → IsErr o → o ≡ Ok r → ⊥
refused o r h e = subst IsErr e h

-- ---- tests

pub guard_ok : (b : Bool) (s : State) (why : Why) (ts : List Token) (r : Content)
    → then_run (cond b (Ok s) (Err why)) (run_on ts) ≡ Ok r
    → (b ≡ true) × Reads s.position s.content ts r
guard_ok b s why ts r e = grind arith

pub same_bytes : (b word : List ℕ) → pointwise nat_eq b word ≡ true → b ≡ word
same_bytes b word e = (slice_eq-Decides Decides-eqb b word (pointwise nat_eq b word) refl).0 e

pub bytes_same : (b : List ℕ) → pointwise nat_eq b b ≡ true
bytes_same b = (slice_eq-Decides Decides-eqb b b (pointwise nat_eq b b) refl).1 refl

-- a text that was to be this one
pub text_found : (wanted label : List ℕ) (s : State) (ts : List Token) (r : Content)
    → then_run (same_text wanted label s) (run_on ts) ≡ Ok r
    → (label ≡ wanted) × Reads s.position s.content ts r
text_found wanted label s ts r e = grind (arith, guard_ok, same_bytes)

pub text_again : (wanted : List ℕ) (s : State) → same_text wanted wanted s ≡ Ok s
text_again wanted s = rw (bytes_same wanted) refl

pub ratio_is : (x y : Ratio) → same_ratio x y ≡ true → x ≡ y
ratio_is x y e = grind (arith, and_parts)

pub ratio_same : (x : Ratio) → same_ratio x x ≡ true
ratio_same x = rw ((Decides-int_eq x.num x.num).1 refl, (Decides-eqb x.den x.den).1 refl) refl
