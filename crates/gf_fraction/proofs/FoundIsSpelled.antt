-- A text spells what a scan finds in it.
use Rattle.std.proofs.Common.{◌≡◌, ℕ, ℤ, pos, ◌<◌, min, Bool, true, false, List, [], ◌∷◌, ◌++◌}
use Rattle.std.proofs.Common.{length, Option, Some, None, arith, refl, ap, sym, ◌∙◌, subst, inl}
use Rattle.std.proofs.Common.{inr, append_assoc}
use Rattle.std.specs.Prelude.{◌==◌, ◌||◌, ◌&&◌, ◌⊎◌, nat_lt, if◌then◌else◌, option_map}
use Rattle.std.specs.Str.Parse.{AllDigits, IsNumeral, digits_value}
use Rattle.std.proofs.lemmas.List.{append-nil}
use Rattle.std.proofs.lemmas.Bool.{ltb-true, eqb-true}
use Rattle.gf_fraction.specs.Ratio.{signed}
use Rattle.gf_fraction.specs.NumberSpelling.{Reading, IsSign, IsPlain, IsExponent, HasShape}
use Rattle.gf_fraction.specs.NumberSpelling.{SpellsReading}
use Rattle.gf_fraction.specs.NumberSpelling.Reading.{decimal, rational}
use Rattle.gf_fraction.specs.NumberSpelling.IsSign.{absent, plus, minus}
use Rattle.gf_fraction.specs.NumberSpelling.IsPlain.{whole, pointed}
use Rattle.gf_fraction.specs.NumberSpelling.HasShape.{plain, raised, fraction}
use Rattle.gf_fraction.specs.inner.NumberScan.{capped, leading, unread, leading_value, has_digits}
use Rattle.gf_fraction.specs.inner.NumberScan.{is_minus, after_sign, scan, scan_rest, scan_decimal}
use Rattle.gf_fraction.specs.inner.NumberScan.{scan_end, scan_pointed, scan_exponent, scan_fraction}
use Rattle.gf_fraction.specs.declared.read.Spelling.{Spelling}
use Rattle.gf_fraction.specs.declared.read.Spelling.TheVariants.{Decimal, Rational}
use Rattle.gf_fraction.proofs.LeadingDigits.{leading_after, capped-after}
use Rattle.gf_fraction.proofs.SpelledIsFound.{AllDigits-leading, AllDigits-append}
use Rattle.gf_fraction.proofs.SpelledIsFound.{digits_value_after-append, held, capped_exponent}
use Rattle.gf_fraction.proofs.SpelledIsFound.{capped_exponent-signed, exponent_if, rational_if}

-- a sign, or none, and the rest
pub record HasSign (text : List ℕ) : Type 0 where
  pub sign : List ℕ
  pub is_sign : IsSign sign (is_minus text)
  pub spelled : text ≡ sign ++ after_sign text

pub has_sign : (text : List ℕ) → HasSign text
has_sign [] = record { sign = []; is_sign = absent; spelled = refl }
has_sign (c ∷ cs) = by_byte c cs (c == 43) (c == 45) refl refl
  where
    by_byte : (c : ℕ) (cs : List ℕ) (p m : Bool) → (c == 43) ≡ p → (c == 45) ≡ m → HasSign (c ∷ cs)
    by_byte c cs true m hp hm =
        let e : c ≡ 43 = eqb-true c 43 hp in
        subst (λ k. HasSign (k ∷ cs)) (sym e)
        (record { sign = 43 ∷ []; is_sign = plus; spelled = refl })
    by_byte c cs false true hp hm =
        let e : c ≡ 45 = eqb-true c 45 hm in
        subst (λ k. HasSign (k ∷ cs)) (sym e)
        (record { sign = 45 ∷ []; is_sign = minus; spelled = refl })
    by_byte c cs false false hp hm =
        record { sign = []; is_sign = subst (IsSign []) (sym hm) absent; spelled = rw (hp, hm) }

-- all of a text, if nothing follows its digits
only_digits : (text : List ℕ) → has_digits text ≡ true → (length (unread text) == 0) ≡ true
    → (leading text ≡ text) × IsNumeral 10 text
only_digits text some none =
    let end : unread text ≡ [] = empty (unread text) none in
    let e : leading text ≡ text =
    sym (append-nil (leading text)) ∙ ap (λ t. leading text ++ t) (sym end) ∙ leading_after text in
    (e, subst (IsNumeral 10) e (ltb-true 0 (length (leading text)) some, AllDigits-leading text))
  where
    empty : (t : List ℕ) → (length t == 0) ≡ true → t ≡ []
    empty [] h = refl
    empty (c ∷ cs) h = absurd (let e : length (c ∷ cs) ≡ 0 = eqb-true (length (c ∷ cs)) 0 h in
        let f : 0 < length (c ∷ cs) = omega arith in omega arith)

-- an exponent after its mark
record FoundExponent (text : List ℕ) (e : ℤ) : Type 0 where
  pub sign : List ℕ
  pub digits : List ℕ
  pub negative : Bool
  pub spelled : text ≡ sign ++ digits
  pub is_sign : IsSign sign negative
  pub some : IsNumeral 10 digits
  pub is : e ≡ capped_exponent (signed negative (digits_value 10 digits))

found_exponent : (text : List ℕ) (e : ℤ) → scan_exponent text ≡ Some e → FoundExponent text e
found_exponent text e =
    by_test (has_digits (after_sign text)) (length (unread (after_sign text)) == 0) refl refl
  where
    by_test : (some none : Bool)
        → has_digits (after_sign text) ≡ some → (length (unread (after_sign text)) == 0) ≡ none
        → exponent_if (some && none) (is_minus text) (leading_value 0 (after_sign text)) ≡ Some e
        → FoundExponent text e
    by_test true true hs hn h =
        let s = has_sign text in
        let o = only_digits (after_sign text) hs hn in
        let v : leading_value 0 (after_sign text) ≡ digits_value 10 (after_sign text) =
        ap (digits_value 10) o.0 in
        let size = min (capped (leading_value 0 (after_sign text))) 39 in
        let found : signed (is_minus text) size ≡ e = cc in
        record {
          sign = s.sign;
          digits = after_sign text;
          negative = is_minus text;
          spelled = s.spelled;
          is_sign = s.is_sign;
          some = o.1;
          is = sym found
              ∙ ap (λ k. signed (is_minus text) (min (capped k) 39)) v
              ∙ sym (capped_exponent-signed (is_minus text) (digits_value 10 (after_sign text)));
        }
    by_test true false hs hn h = absurd (let f : ⊥ = cc in f)
    by_test false none hs hn h = absurd (let f : ⊥ = cc in f)

pub record Found (text : List ℕ) (spelling : Spelling) : Type 0 where
  pub reading : Reading
  pub shape : HasShape text reading
  pub is : spelling ≡ held reading

-- after digits with or without a point
found_end : (text digits rest : List ℕ) (places : ℕ) (s : Spelling) → IsPlain text digits places
    → scan_end (capped (digits_value 10 digits)) places rest ≡ Some s → Found (text ++ rest) s
found_end text digits [] places s is h =
    record {
      reading = decimal (digits_value 10 digits) places (pos 0);
      shape = subst (λ t. HasShape t (decimal (digits_value 10 digits) places (pos 0)))
          (sym (append-nil text)) (plain text digits places is);
      is = (let e : Decimal (capped (digits_value 10 digits)) places (pos 0) ≡ s = cc in sym e);
    }
found_end text digits (c ∷ cs) places s is h = by_mark (c == 101) (c == 69) refl refl h
  where
    by_tail : (c ≡ 101) ⊎ (c ≡ 69) → (o : Option ℤ) → scan_exponent cs ≡ o
        → option_map (λ e. Decimal (capped (digits_value 10 digits)) places e) o ≡ Some s
        → Found (text ++ (c ∷ cs)) s
    by_tail m None eo h = absurd (let f : ⊥ = cc in f)
    by_tail m (Some e) eo h =
        let x = found_exponent cs e eo in
        let exponent = signed x.negative (digits_value 10 x.digits) in
        let r : IsExponent (c ∷ cs) exponent = record {
          mark = c ∷ [];
          sign = x.sign;
          negative = x.negative;
          digits = x.digits;
          spelled = ap (λ t. c ∷ t) x.spelled;
          is_mark = elim m [ inl l ↦ inl (ap (λ k. k ∷ []) l) | inr u ↦ inr (ap (λ k. k ∷ []) u) ];
          is_sign = x.is_sign;
          some = x.some;
          value = refl;
        } in
        let e' : Decimal (capped (digits_value 10 digits)) places e ≡ s = cc in
        record {
          reading = decimal (digits_value 10 digits) places exponent;
          shape = raised text (c ∷ cs) digits places exponent is r;
          is = sym e' ∙ ap (λ z. Decimal (capped (digits_value 10 digits)) places z) x.is;
        }

    by_mark : (l u : Bool) → (c == 101) ≡ l → (c == 69) ≡ u
        → (if l || u
        then option_map (λ e. Decimal (capped (digits_value 10 digits)) places e) (scan_exponent cs)
        else None) ≡ Some s
        → Found (text ++ (c ∷ cs)) s
    by_mark true u hl hu h = by_tail (inl (eqb-true c 101 hl)) (scan_exponent cs) refl h
    by_mark false true hl hu h = by_tail (inr (eqb-true c 69 hu)) (scan_exponent cs) refl h
    by_mark false false hl hu h = absurd (let f : ⊥ = cc in f)

found_decimal : (text digits rest : List ℕ) (places : ℕ) (some : Bool) (s : Spelling)
    → (some ≡ true → IsPlain text digits places)
    → scan_decimal (capped (digits_value 10 digits)) some places rest ≡ Some s
    → Found (text ++ rest) s
found_decimal text digits rest places some s h h' = grind (arith, found_end)

found_whole : (ds rest : List ℕ) (s : Spelling) → AllDigits 10 ds
    → scan_decimal (capped (digits_value 10 ds)) (nat_lt 0 (length ds)) 0 rest ≡ Some s
    → Found (ds ++ rest) s
found_whole ds rest s all h = found_decimal ds ds rest 0 (nat_lt 0 (length ds)) s
    (λ some. whole ds (ltb-true 0 (length ds) some, all)) h

found_pointed : (ds cs : List ℕ) (s : Spelling) → AllDigits 10 ds
    → scan_pointed (capped (digits_value 10 ds)) (nat_lt 0 (length ds)) cs ≡ Some s
    → Found (ds ++ (46 ∷ cs)) s
found_pointed ds cs s all h =
    let after = leading cs in
    let value : capped (leading_value (capped (digits_value 10 ds)) cs)
    ≡ capped (digits_value 10 (ds ++ after)) =
    capped-after (digits_value 10 ds) after
    ∙ ap capped (sym (digits_value_after-append 0 ds after)) in
    let turned : ((ds ++ 46 ∷ []) ++ after) ++ unread cs ≡ ds ++ (46 ∷ cs) =
    append_assoc (ds ++ 46 ∷ []) after (unread cs)
    ∙ append_assoc ds (46 ∷ []) (after ++ unread cs)
    ∙ ap (λ t. ds ++ (46 ∷ t)) (leading_after cs) in
    let digits = AllDigits-append ds after all (AllDigits-leading cs) in
    let some = nat_lt 0 (length ds) || has_digits cs in
    let F : ℕ → Type 0 = λ v. scan_decimal v some (length after) (unread cs) ≡ Some s in
    subst (λ t. Found t s) turned
    (found_decimal ((ds ++ 46 ∷ []) ++ after) (ds ++ after) (unread cs) (length after) some s
    (λ is. pointed ds after (either_side ds after is, digits)) (subst F value h))
  where
    either_side : (ds after : List ℕ) → (nat_lt 0 (length ds) || nat_lt 0 (length after)) ≡ true
        → 0 < length (ds ++ after)
    either_side [] after h = ltb-true 0 (length after) h
    either_side (d ∷ ds) after h = omega arith

found_fraction : (ds cs : List ℕ) (s : Spelling) → AllDigits 10 ds
    → scan_fraction (capped (digits_value 10 ds)) (nat_lt 0 (length ds)) cs ≡ Some s
    → Found (ds ++ (47 ∷ cs)) s
found_fraction ds cs s all =
    by_test (nat_lt 0 (length ds)) (has_digits cs) (length (unread cs) == 0) refl refl refl
  where
    by_test : (a b n : Bool)
        → nat_lt 0 (length ds) ≡ a → has_digits cs ≡ b → (length (unread cs) == 0) ≡ n
        → rational_if (a && b && n) (capped (digits_value 10 ds)) (leading_value 0 cs) ≡ Some s
        → Found (ds ++ (47 ∷ cs)) s
    by_test true true true ha hb hn h =
        let o = only_digits cs hb hn in
        let e : Rational (capped (digits_value 10 ds)) (capped (leading_value 0 cs)) ≡ s = cc in
        record {
          reading = rational (digits_value 10 ds) (digits_value 10 cs);
          shape = subst (λ t. HasShape t (rational (digits_value 10 ds) (digits_value 10 cs)))
              (append_assoc ds (47 ∷ []) cs) (fraction ds cs (ltb-true 0 (length ds) ha, all) o.1);
          is = sym e
              ∙ ap (λ t. Rational (capped (digits_value 10 ds)) (capped (digits_value 10 t))) o.0;
        }
    by_test true true false ha hb hn h = absurd (let f : ⊥ = cc in f)
    by_test true false n ha hb hn h = absurd (let f : ⊥ = cc in f)
    by_test false b n ha hb hn h = absurd (let f : ⊥ = cc in f)

found_rest : (ds rest : List ℕ) (s : Spelling)
    → AllDigits 10 ds → scan_rest (capped (digits_value 10 ds)) (nat_lt 0 (length ds)) rest ≡ Some s
    → Found (ds ++ rest) s
found_rest ds [] s all h = found_whole ds [] s all h
found_rest ds (c ∷ cs) s all h = by_byte (c == 47) (c == 46) refl refl h
  where
    by_byte : (slash point : Bool) → (c == 47) ≡ slash → (c == 46) ≡ point
        → (if slash then scan_fraction (capped (digits_value 10 ds)) (nat_lt 0 (length ds)) cs
        else if point then scan_pointed (capped (digits_value 10 ds)) (nat_lt 0 (length ds)) cs
        else scan_decimal (capped (digits_value 10 ds)) (nat_lt 0 (length ds)) 0 (c ∷ cs)) ≡ Some s
        → Found (ds ++ (c ∷ cs)) s
    by_byte true point hs hp h = subst (λ k. Found (ds ++ (k ∷ cs)) s) (sym (eqb-true c 47 hs))
        (found_fraction ds cs s all h)
    by_byte false true hs hp h =
        subst (λ k. Found (ds ++ (k ∷ cs)) s) (sym (eqb-true c 46 hp)) (found_pointed ds cs s all h)
    by_byte false false hs hp h = found_whole ds (c ∷ cs) s all h

pub found : (text : List ℕ) (s : Spelling) → scan text ≡ Some s → Found text s
found text s h = subst (λ t. Found t s) (leading_after text)
    (found_rest (leading text) (unread text) s (AllDigits-leading text) h)

-- with the sign
pub record FoundNumber (text : List ℕ) (negative : Bool) (spelling : Spelling) : Type 0 where
  pub reading : Reading
  pub spelled : SpellsReading text negative reading
  pub is : spelling ≡ held reading

pub found_number : (text : List ℕ) (s : Spelling) → scan (after_sign text) ≡ Some s
    → FoundNumber text (is_minus text) s
found_number text s h = grind (arith, has_sign text, found (after_sign text) s h)
