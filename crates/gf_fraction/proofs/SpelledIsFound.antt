-- If a text has one of the shapes, the scan of it finds what the text says, capped.
use Rattle.std.proofs.Common.{◌≡◌, ℕ, ℤ, pos, negsuc, suc, ◌+◌, ◌*◌, ◌<◌, min, Bool, true, false}
use Rattle.std.proofs.Common.{List, [], ◌∷◌, ◌++◌, length, Option, Some, None, arith, refl, ap, sym}
use Rattle.std.proofs.Common.{◌∙◌, subst, inl, inr, append_assoc}
use Rattle.std.proofs.lemmas.List.{append-nil}
use Rattle.std.specs.Prelude.{◌==◌, ◌||◌, ◌⊎◌, nat_lt, neg_ℤ, if◌then◌else◌}
use Rattle.std.specs.Char.{digit_value, is_ascii_digit}
use Rattle.std.specs.Str.Parse.{AllDigits, digits_value, digits_value_after}
use Rattle.std.proofs.lemmas.Bool.{lt-ltb}
use Rattle.std.proofs.lemmas.Bool.Decides.{nat_tests}
use Rattle.gf_fraction.specs.Ratio.{signed}
use Rattle.gf_fraction.specs.NumberSpelling.{Reading, IsSign, IsPlain, IsExponent, HasShape}
use Rattle.gf_fraction.specs.NumberSpelling.Reading.{decimal, rational}
use Rattle.gf_fraction.specs.NumberSpelling.IsPlain.{whole, pointed}
use Rattle.gf_fraction.specs.NumberSpelling.HasShape.{plain, raised, fraction}
use Rattle.gf_fraction.specs.inner.NumberScan.{capped, leading, unread, is_minus, after_sign, scan}
use Rattle.gf_fraction.specs.inner.NumberScan.{scan_rest, scan_decimal, scan_end}
use Rattle.gf_fraction.specs.declared.read.Spelling.{Spelling}
use Rattle.gf_fraction.specs.declared.read.Spelling.TheVariants.{Decimal, Rational}
use Rattle.gf_fraction.proofs.LeadingDigits.{capped-after}

-- digits

pub ascii_from_digit : (c : ℕ) → digit_value c < 10 → is_ascii_digit c ≡ true
ascii_from_digit c h = grind (arith, nat_tests)

pub digit_from_ascii : (c : ℕ) → is_ascii_digit c ≡ true → digit_value c < 10
digit_from_ascii c h = grind (arith, nat_tests)

-- no digit stands first
abbrev Stops : List ℕ → Type 0
Stops [] = Unit {0}
Stops (c ∷ cs) = is_ascii_digit c ≡ false

leading-append : (ds rest : List ℕ) → AllDigits 10 ds → Stops rest
    → (leading (ds ++ rest) ≡ ds) × (unread (ds ++ rest) ≡ rest)
leading-append [] [] all stops = (refl, refl)
leading-append [] (c ∷ cs) all stops = (rw stops, rw stops)
leading-append (d ∷ ds) rest all stops =
    grind (arith, ascii_from_digit, leading-append ds rest all.1 stops)

leading-digits : (ds : List ℕ) → AllDigits 10 ds → (leading ds ≡ ds) × (unread ds ≡ [])
leading-digits [] all = (refl, refl)
leading-digits (d ∷ ds) all = grind (arith, ascii_from_digit, leading-digits ds all.1)

pub AllDigits-leading : (text : List ℕ) → AllDigits 10 (leading text)
AllDigits-leading [] = tt
AllDigits-leading (c ∷ cs) = grind (arith, digit_from_ascii, AllDigits-leading cs)

pub AllDigits-append : (xs ys : List ℕ) → AllDigits 10 xs → AllDigits 10 ys
    → AllDigits 10 (xs ++ ys)
AllDigits-append [] ys hx hy = hy
AllDigits-append (x ∷ xs) ys hx hy = (hx.0, AllDigits-append xs ys hx.1 hy)

AllDigits-parts : (xs ys : List ℕ) → AllDigits 10 (xs ++ ys) → AllDigits 10 xs × AllDigits 10 ys
AllDigits-parts [] ys h = (tt, h)
AllDigits-parts (x ∷ xs) ys h = let p = AllDigits-parts xs ys h.1 in ((h.0, p.0), p.1)

pub digits_value_after-append : (n : ℕ) (xs ys : List ℕ)
    → digits_value_after 10 n (xs ++ ys) ≡ digits_value_after 10 (digits_value_after 10 n xs) ys
digits_value_after-append n [] ys = refl
digits_value_after-append n (x ∷ xs) ys = digits_value_after-append (n * 10 + digit_value x) xs ys

-- signs

-- no sign stands first
abbrev pub Unsigned : List ℕ → Type 0
Unsigned [] = Unit {0}
Unsigned (c ∷ cs) = ((c == 43) ≡ false) × ((c == 45) ≡ false)

pub digit_unsigned : (c : ℕ) → is_ascii_digit c ≡ true → ((c == 43) ≡ false) × ((c == 45) ≡ false)
digit_unsigned c h = (grind (arith, nat_tests), grind (arith, nat_tests))

pub Unsigned-digits : (ds : List ℕ) → AllDigits 10 ds → Unsigned ds
Unsigned-digits ds all = grind arith

pub sign_split : (sign rest : List ℕ) (negative : Bool) → IsSign sign negative → Unsigned rest
    → (is_minus (sign ++ rest) ≡ negative) × (after_sign (sign ++ rest) ≡ rest)
sign_split sign rest negative is h = grind arith

-- capped readings

abbrev pub capped_exponent : ℤ → ℤ
capped_exponent (pos n) = pos (min (capped n) 39)
capped_exponent (negsuc n) = neg_ℤ (pos (min (capped (suc n)) 39))

abbrev pub held : Reading → Spelling
held (decimal digits places exponent) = Decimal (capped digits) places (capped_exponent exponent)
held (rational num den) = Rational (capped num) (capped den)

pub capped_exponent-signed : (negative : Bool) (n : ℕ)
    → capped_exponent (signed negative n) ≡ signed negative (min (capped n) 39)
capped_exponent-signed negative n = grind arith

-- what a scan of an exponent and of a denominator answers by its test
abbrev pub exponent_if : Bool → Bool → ℕ → Option ℤ
exponent_if found negative value =
    if found then Some (signed negative (min (capped value) 39)) else None

abbrev pub rational_if : Bool → ℕ → ℕ → Option Spelling
rational_if found num den = if found then Some (Rational num (capped den)) else None

-- what has a shape is found

above_zero : (ds : List ℕ) → 0 < length ds → nat_lt 0 (length ds) ≡ true
above_zero ds h = lt-ltb 0 (length ds) h

-- nothing, or the mark of an exponent
data Ends : List ℕ → Type 0 where
  none : Ends []
  mark : (c : ℕ) (cs : List ℕ) → (c ≡ 101) ⊎ (c ≡ 69) → Ends (c ∷ cs)

ends_stop : (more : List ℕ) → Ends more → Stops more
ends_stop more h = grind arith

rest_ends : (v : ℕ) (more : List ℕ) → Ends more → scan_rest v true more ≡ scan_end v 0 more
rest_ends v [] none = refl
rest_ends v (c ∷ cs) (mark _ _ (inl e)) = rw e
rest_ends v (c ∷ cs) (mark _ _ (inr e)) = rw e

scan_plain : (text digits more : List ℕ) (places : ℕ) → IsPlain text digits places → Ends more
    → scan (text ++ more) ≡ scan_end (capped (digits_value 10 digits)) places more
scan_plain text _ more _ (whole _ is) ends =
    grind (arith, leading-append, ends_stop, above_zero, rest_ends)
scan_plain _ _ more _ (pointed before after is) ends =
    let parts = AllDigits-parts before after is.1 in
    let tail = after ++ more in
    let turned : ((before ++ 46 ∷ []) ++ after) ++ more ≡ before ++ (46 ∷ tail) =
    append_assoc (before ++ 46 ∷ []) after more ∙ append_assoc before (46 ∷ []) tail in
    let e = leading-append before (46 ∷ tail) parts.0 refl in
    let f = leading-append after more parts.1 (ends_stop more ends) in
    let v = digits_value 10 before in
    let some = nat_lt 0 (length before) in
    let value : capped (digits_value_after 10 (capped v) after)
    ≡ capped (digits_value 10 (before ++ after)) =
    capped-after v after ∙ ap capped (sym (digits_value_after-append 0 before after)) in
    ap scan turned
    ∙ (λ i. scan_rest (capped (digits_value 10 (e.0 i))) (nat_lt 0 (length (e.0 i))) (e.1 i))
    ∙ (λ i. scan_decimal (capped (digits_value_after 10 (capped v) (f.0 i)))
    (some || nat_lt 0 (length (f.0 i))) (length (f.0 i)) (f.1 i))
    ∙ (λ i. scan_decimal (value i) (either_side before after is.0 i) (length after) more)
  where
    either_side : (before after : List ℕ) → 0 < length (before ++ after)
        → (nat_lt 0 (length before) || nat_lt 0 (length after)) ≡ true
    either_side [] after h = above_zero after h
    either_side (b ∷ bs) after h = rw (above_zero (b ∷ bs) (omega arith))

-- with an exponent
exponent_ends : (more : List ℕ) (exponent : ℤ) → IsExponent more exponent → Ends more
exponent_ends more exponent h =
    subst Ends (sym h.spelled) (elim h.is_mark [
      | inl e ↦ subst (λ m. Ends (m ++ h.sign ++ h.digits)) (sym e)
          (mark 101 (h.sign ++ h.digits) (inl refl))
      | inr e ↦ subst (λ m. Ends (m ++ h.sign ++ h.digits)) (sym e)
          (mark 69 (h.sign ++ h.digits) (inr refl))
    ])

pub scan_shape : (text : List ℕ) (reading : Reading) → HasShape text reading
    → scan text ≡ Some (held reading)
scan_shape text _ (plain _ digits places is) =
    ap scan (sym (append-nil text)) ∙ scan_plain text digits [] places is none
scan_shape _ _ (raised text more digits places exponent is by) =
    scan_plain text digits more places is (exponent_ends more exponent by)
    ∙ (grind (arith, sign_split, Unsigned-digits, leading-digits, above_zero))
scan_shape _ _ (fraction num den is_num is_den) =
    grind (arith, append_assoc, leading-append, leading-digits, above_zero)
