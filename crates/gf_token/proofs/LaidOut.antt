-- Which tokens a text spells that is laid out in fields and lines.
use Rattle.std.proofs.Common.{◌≡◌, ℕ, ◌+◌, true, List, [], ◌∷◌, ◌++◌, length, map, refl, sym}
use Rattle.std.proofs.Common.{ap, append_assoc, append-nil, arith}
use Rattle.std.specs.Prelude.{codes}
use Rattle.std.specs.List.{AllByRecursion, flat_map}
use Rattle.gf_token.specs.Byte.{is_space}
use Rattle.gf_token.specs.Grammar.{Each, braced}
use Rattle.gf_token.specs.LabelSpelling.{IsLabel}
use Rattle.gf_token.specs.TextLayout.{lines_text, list_text, quoted, spaced}
use Rattle.gf_token.specs.Token.{Token, Lexeme, lexeme, spelling}
use Rattle.gf_token.specs.Token.Token.{Opening, Closing, Text, Bare, Broken}
use Rattle.gf_token.specs.TokenSpelling.{IsSpelled, MayPrecede, GoesOn, Spells}
use Rattle.gf_token.proofs.Grammar.{each_both}
use Rattle.gf_token.proofs.Spelled.{wider}

-- from any place on, the bytes spell these tokens
abbrev pub Tells : List ℕ → List Token → Type 0
Tells bytes tokens = (at : ℕ)
    → (lexemes : List Lexeme) × Spells at bytes lexemes × (map (λ l. l.token) lexemes ≡ tokens)

-- nothing, or whitespace first
abbrev IsApart : List ℕ → Type 0
IsApart [] = Unit {0}
IsApart (b ∷ bytes) = is_space b ≡ true

-- a field spells these tokens, with anything after it that stands apart
abbrev pub Says : List ℕ → List Token → Type 0
Says field tokens = (rest : List ℕ) (others : List Token) → IsApart rest → Tells rest others
    → Tells (field ++ rest) (tokens ++ others)

-- one after another, these fields say these tokens
pub record AreSaid (fields : List (List ℕ)) (tokens : List Token) : Type 0 where
  pub each : Each (λ ts field. Says field ts) tokens fields

-- ---- single tokens

tells_space : (b : ℕ) (rest : List ℕ) (tokens : List Token) → is_space b ≡ true → Tells rest tokens
    → Tells (b ∷ rest) tokens
tells_space b rest tokens s h at = let k = h (at + 1) in (k.0, wider k.0 b at rest s k.1, k.2)

says_token : (t : Token) → IsSpelled t → ((rest : List ℕ) → IsApart rest → MayPrecede t rest)
    → ((ls : List Lexeme) (A : Type 0) → A → GoesOn t ls A) → Says (spelling t) (t ∷ [])
says_token t h precedes on rest others apart told at =
    let end = at + length (spelling t) in
    let k = told end in (
      lexeme at end t ∷ k.0,
      (
        record {
          gap = [];
          rest = rest;
          parts = refl;
          is_gap = tt;
          is_spelled = h;
          may_precede = precedes rest apart;
          start = omega arith;
          end = refl;
        },
        on k.0 (Spells end rest k.0) k.1,
      ),
      ap (λ (ts : List Token). t ∷ ts) k.2,
    )

-- ---- fields put together

pub none : AreSaid [] []
none = record { each = refl }

pub one : (field : List ℕ) (tokens : List Token) → Says field tokens → AreSaid (field ∷ []) tokens
one field tokens said = record { each = (tokens, [], sym (append-nil tokens), said, refl) }

pub both : {xs ys : List (List ℕ)} {ts us : List Token} → AreSaid xs ts → AreSaid ys us
    → AreSaid (xs ++ ys) (ts ++ us)
both {xs} {ys} {ts} {us} first second = grind (arith, each_both)

module _ {X : Type 0} (P : X → Type 0) where
  pub each_field : (f : X → List ℕ) (g : X → List Token) → ((x : X) → P x → Says (f x) (g x))
      → (xs : List X) → AllByRecursion P xs → AreSaid (map f xs) (flat_map g xs)
  each_field f g h [] all = none
  each_field f g h (x ∷ xs) all = both (one (f x) (g x) (h x all.0)) (each_field f g h xs all.1)

  pub each_token : (f : X → List ℕ) (g : X → Token) → ((x : X) → P x → Says (f x) (g x ∷ []))
      → (xs : List X) → AllByRecursion P xs → AreSaid (map f xs) (map g xs)
  each_token f g h [] all = none
  each_token f g h (x ∷ xs) all =
      both (one (f x) (g x ∷ []) (h x all.0)) (each_token f g h xs all.1)

pub says_word : (bytes : List ℕ) → IsSpelled (Bare bytes) → Says bytes (Bare bytes ∷ [])
says_word bytes h = says_token (Bare bytes) h (grind arith) (λ ls A a. a)

says_label : (l : List ℕ) → IsLabel l → Says (quoted l) (Text l ∷ [])
says_label l h = says_token (Text l) h (λ rest apart. tt) (λ ls A a. a)

pub word : (bytes : List ℕ) → IsSpelled (Bare bytes) → AreSaid (bytes ∷ []) (Bare bytes ∷ [])
word bytes h = one bytes (Bare bytes ∷ []) (says_word bytes h)

pub label : (l : List ℕ) → IsLabel l → AreSaid (quoted l ∷ []) (Text l ∷ [])
label l h = one (quoted l) (Text l ∷ []) (says_label l h)

pub labels : (ls : List (List ℕ)) → AllByRecursion IsLabel ls
    → AreSaid (map quoted ls) (map Text ls)
labels = each_token IsLabel quoted Text says_label

-- ---- any tokens

-- all tokens but a broken text
abbrev pub IsWhole : Token → Type 0
IsWhole Broken = ⊥
IsWhole _ = Unit {0}

says_any : (t : Token) → IsSpelled t → IsWhole t → Says (spelling t) (t ∷ [])
says_any t h whole = grind (arith, says_token, says_label, says_word)

pub each_said : (ts : List Token) → AllByRecursion IsSpelled ts → AllByRecursion IsWhole ts
    → AreSaid (map spelling ts) ts
each_said [] h whole = none
each_said (t ∷ ts) h whole =
    both (one (spelling t) (t ∷ []) (says_any t h.0 whole.0)) (each_said ts h.1 whole.1)

-- ---- lines of fields, and lists in braces

says_both : (p q : List ℕ) (xs ys : List Token) → Says p xs → Says q ys
    → Says (p ++ 32 ∷ q) (xs ++ ys)
says_both p q xs ys h k rest others apart told =
    rw (append_assoc p (32 ∷ q) rest, append_assoc xs ys others) (h (32 ∷ (q ++ rest))
    (ys ++ others) refl (tells_space 32 (q ++ rest) (ys ++ others) refl (k rest others apart told)))

says_spaced : (fields : List (List ℕ)) (tokens : List Token)
    → Each (λ ts field. Says field ts) tokens fields → Says (spaced fields) tokens
says_spaced [] tokens e = rw e (λ rest others apart told. told)
says_spaced (f ∷ []) tokens e = rw (e.2, e.4, append-nil e.0) e.3
says_spaced (f ∷ g ∷ fields) tokens e = rw e.2
    (says_both f (spaced (g ∷ fields)) e.0 e.1 e.3 (says_spaced (g ∷ fields) e.1 e.4))

pub line : {xs : List (List ℕ)} {ts : List Token} → AreSaid xs ts → Says (spaced xs) ts
line {xs} {ts} are = says_spaced xs ts are.each

pub fields : {xs : List (List ℕ)} {ts : List Token} → AreSaid xs ts → AreSaid (spaced xs ∷ []) ts
fields {xs} {ts} are = one (spaced xs) ts (line are)

pub says_list : {xs : List (List ℕ)} {ts : List Token} → AreSaid xs ts
    → Says (list_text xs) (braced ts)
says_list {xs} {ts} are = line (both (one (codes "{") (Opening ∷ []) opening)
    (both are (one (codes "}") (Closing ∷ []) closing)))
  where
    opening : Says (codes "{") (Opening ∷ [])
    opening = says_token Opening tt (λ rest apart. tt) (λ ls A a. a)

    closing : Says (codes "}") (Closing ∷ [])
    closing = says_token Closing tt (λ rest apart. tt) (λ ls A a. a)

pub list : {xs : List (List ℕ)} {ts : List Token} → AreSaid xs ts
    → AreSaid (list_text xs ∷ []) (braced ts)
list {xs} {ts} are = one (list_text xs) (braced ts) (says_list are)

-- ---- lines

pub empty : AreSaid ([] ∷ []) []
empty = one [] [] (λ rest others apart told. told)

tells_each : (fields : List (List ℕ)) (tokens : List Token)
    → Each (λ ts field. Says field ts) tokens fields → Tells (lines_text fields) tokens
tells_each [] tokens e = rw e (λ at. ([], tt, refl))
tells_each (f ∷ fields) tokens e = rw (e.2, append_assoc f (10 ∷ []) (lines_text fields))
    (e.3 (10 ∷ lines_text fields) e.1 refl (tells_space 10 (lines_text fields) e.1 refl
    (tells_each fields e.1 e.4)))

pub lines : {xs : List (List ℕ)} {ts : List Token} → AreSaid xs ts → Tells (lines_text xs) ts
lines {xs} {ts} are = tells_each xs ts are.each
