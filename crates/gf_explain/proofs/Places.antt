-- The place after a text, byte after byte.
use Rattle.std.proofs.Common.{◌≡◌, ◌∙◌, ℕ, ◌+◌, nat_eq, false, cond, List, [], ◌∷◌, ◌++◌}
use Rattle.std.proofs.Common.{refl, sym, ap, inr, arith}
use Rattle.std.proofs.lemmas.Bool.{ne_eqb}
use Rattle.std.proofs.lemmas.List.{append-nil, append_assoc, length-append}
use Rattle.std.proofs.lemmas.List.Sums.{sum_by-append}
use Rattle.gf_explain.specs.Place.{IsPlaceAfter, line_feed, line_feeds}
use Rattle.gf_explain.specs.declared.place.Place.{Place}

plus_zero : (n m : ℕ) → n + (0 + m) ≡ n + m
plus_zero n m = omega arith

feeds_more : (text : List ℕ) (byte : ℕ)
    → line_feeds (text ++ byte ∷ []) ≡ line_feeds text + cond (nat_eq line_feed byte) 1 0
feeds_more text byte =
    sum_by-append (λ x. cond (nat_eq line_feed x) 1 0) text (byte ∷ [])
    ∙ plus_zero (line_feeds text) (cond (nat_eq line_feed byte) 1 0)

-- a byte that is not a line feed
pub unlike : (byte : ℕ) → (byte ≡ line_feed → ⊥) → nat_eq line_feed byte ≡ false
unlike byte other = ne_eqb line_feed byte (λ e. other (sym e))

-- after a line feed
pub after_feed : (text : List ℕ) (place : Place) → IsPlaceAfter text place
    → IsPlaceAfter (text ++ line_feed ∷ []) (record { line = place.line + 1; column = 1 })
after_feed text place is = record {
  line = ap (λ (n : ℕ). n + 1) (is.line ∙ sym (feeds_more text line_feed));
  last = [];
  is_last = record {
    before = text ++ line_feed ∷ [];
    is_text = sym (append-nil (text ++ line_feed ∷ []));
    begins = inr (text, refl);
    whole = refl;
  };
  column = refl;
}

-- after another byte
pub after_other : (text : List ℕ) (byte : ℕ) (place : Place) → nat_eq line_feed byte ≡ false
    → IsPlaceAfter text place
    → IsPlaceAfter (text ++ byte ∷ []) (record { line = place.line; column = place.column + 1 })
after_other text byte place other is =
    let none : line_feeds (is.last ++ byte ∷ []) ≡ 0 = feeds_more is.last byte
    ∙ rw (is.is_last.whole, other) refl in
    record {
      line = is.line ∙ ap (λ (n : ℕ). n + 1) (sym (feeds_more text byte ∙ rw other (omega arith)));
      last = is.last ++ byte ∷ [];
      is_last = record {
        before = is.is_last.before;
        is_text = ap (λ (bs : List ℕ). bs ++ byte ∷ []) is.is_last.is_text
            ∙ append_assoc is.is_last.before is.last (byte ∷ []);
        begins = is.is_last.begins;
        whole = none;
      };
      column = ap (λ (n : ℕ). n + 1) (is.column ∙ sym (length-append is.last (byte ∷ [])));
    }
