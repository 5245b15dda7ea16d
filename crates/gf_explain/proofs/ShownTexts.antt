-- A text that is shown, with one more character.
use Rattle.std.proofs.Common.{◌≡◌, ◌∙◌, ◌++◌, ℕ, Bool, List, [], ◌∷◌, ap, if◌then◌else◌, true}
use Rattle.std.proofs.Common.{false, append-nil, sym}
use Rattle.std.proofs.lemmas.List.Elements.{All-push}
use Rattle.std.proofs.lemmas.Str.{encodes-append}
use Rattle.std.specs.Char.{encode_utf8}
use Rattle.std.specs.Prelude.{encode_utf8_all}
use Rattle.gf_explain.specs.Shown.{IsShowable, IsShown}

-- the bytes of one more character
pub encodes-push : (characters : List ℕ) (c : ℕ)
    → encode_utf8_all (characters ++ c ∷ []) ≡ encode_utf8_all characters ++ encode_utf8 c
encodes-push characters c = encodes-append characters (c ∷ [])
    ∙ ap (λ (t : List ℕ). encode_utf8_all characters ++ t) (append-nil (encode_utf8 c))

one_more : (text : List ℕ) (c : ℕ) → IsShown text → IsShowable c → IsShown (text ++ encode_utf8 c)
one_more text c shown showable = record {
  characters = shown.characters ++ c ∷ [];
  are_showable = All-push IsShowable shown.characters c shown.are_showable showable;
  is_text = ap (λ (t : List ℕ). t ++ encode_utf8 c) shown.is_text
      ∙ sym (encodes-push shown.characters c);
}

-- or without it, if there was no memory for it
pub pushed : (is : Bool) (text : List ℕ) (c : ℕ) → IsShown text → IsShowable c
    → IsShown (if is then text ++ encode_utf8 c else text)
pushed true text c shown showable = one_more text c shown showable
pushed false text c shown showable = shown
