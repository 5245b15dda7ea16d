-- The digits at the head of a text: their value, how many there are, and what follows them.
use Rattle.std.proofs.Common.{length-append, add-one, length, get_or, arith, true, List, ◌++◌, drop}
use Rattle.std.proofs.Common.{refl, ◌≡◌, ◌+◌, ◌-◌, ◌*◌, ◌<◌, ◌≤◌, ◌∷◌, sym, ◌∙◌, [], ap, ℕ}
use Rattle.std.specs.Char.{digit_value, is_ascii_digit}
use Rattle.std.specs.Str.Parse.{digits_value_after}
use Rattle.std.proofs.Math.Seq.{drop-cons}
use Rattle.gf_fraction.specs.inner.NumberScan.{capped, leading, unread, leading_value}

pub unread-digit : (c : ℕ) (cs : List ℕ) → is_ascii_digit c ≡ true → unread (c ∷ cs) ≡ unread cs
unread-digit c cs h = rw h

-- the same at a place of a text
module _ (text : List ℕ) (i : ℕ) (within : i < length text) where
  abbrev here : ℕ
  here = get_or text i 0

  abbrev more : List ℕ
  more = drop (i + 1) text

  at : drop i text ≡ here ∷ more
  at = rw (add-one, drop-cons text i 0)

  pub leading_value-drop : (v : ℕ) → is_ascii_digit (get_or text i 0) ≡ true
      → leading_value v (drop i text)
      ≡ leading_value (v * 10 + (get_or text i 0 - 48)) (drop (i + 1) text)
  leading_value-drop v h = ap (leading_value v) at ∙ (grind arith)

  pub unread-drop : is_ascii_digit (get_or text i 0) ≡ true
      → unread (drop i text) ≡ unread (drop (i + 1) text)
  unread-drop h = ap unread at ∙ unread-digit here more h

-- too large stays too large, so a value may be capped at each digit
pub capped-after : (n : ℕ) (ds : List ℕ)
    → capped (digits_value_after 10 (capped n) ds) ≡ capped (digits_value_after 10 n ds)
capped-after n [] = omega arith
capped-after n (c ∷ cs) =
    let d = digit_value c in
    let once : capped (capped n * 10 + d) ≡ capped (n * 10 + d) = omega arith in
    sym (capped-after (capped n * 10 + d) cs)
    ∙ ap (λ k. capped (digits_value_after 10 k cs)) once
    ∙ capped-after (n * 10 + d) cs

pub capped-leading : (n : ℕ) (text : List ℕ)
    → capped (leading_value (capped n) text) ≡ capped (leading_value n text)
capped-leading n text = capped-after n (leading text)

-- the digits at the head and what follows them make up the text
pub leading_after : (text : List ℕ) → leading text ++ unread text ≡ text
leading_after [] = refl
leading_after (c ∷ cs) = grind (arith, leading_after cs)

pub length_leading : (text : List ℕ) → length (leading text) + length (unread text) ≡ length text
length_leading text = cc (length-append (leading text) (unread text), leading_after text)

pub length_after : (text : List ℕ) → length (unread text) ≤ length text
length_after text = omega (arith, length_leading text)

pub ruleset digit_counts = (length_leading, length_after)
