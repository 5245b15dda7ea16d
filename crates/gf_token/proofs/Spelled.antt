-- Each byte list spells exactly one list of tokens: those that are found in it byte by byte.
use Rattle.std.proofs.lemmas.Bool.Decides.{Decides-eqb, nat_tests}
use Rattle.std.proofs.Common.{append_assoc, length, arith, false, subst, Bool, List, cond, refl, []}
use Rattle.std.proofs.Common.{true, ◌&&◌, ◌++◌, ◌==◌, ◌||◌, inl, inr, suc, sym, ◌+◌, ◌∙◌, ◌∷◌, ◌≡◌}
use Rattle.std.proofs.Common.{ap, ℕ}
use Rattle.std.specs.Prelude.{not}
use Rattle.std.specs.List.{AllByRecursion}
use Rattle.std.proofs.lemmas.Bool.{cases_Bool, and_parts}
use Rattle.std.proofs.lemmas.List.{length-append, append-nil}
use Rattle.gf_token.specs.Byte.{is_space, is_bare}
use Rattle.gf_token.specs.LabelSpelling.{is_spelling_after}
use Rattle.gf_token.specs.Token.{spelling, Lexeme, lexeme, Token}
use Rattle.gf_token.specs.Token.Token.{Closing, Opening, Broken, Comma, Bare, Text}
use Rattle.gf_token.specs.TokenSpelling.{MayPrecede, IsSpelled, GoesOn, Spells, IsGap}
use Rattle.gf_token.specs.inner.Lexing.{begins, single, Mode, lex}
use Rattle.gf_token.specs.inner.Lexing.Mode.{InBare, InText, Gap}

abbrev pub AllBare : List ℕ → Type 0
AllBare bytes = AllByRecursion (λ b. is_bare b ≡ true) bytes

-- no label after the byte `before` is closed by a quote
abbrev ClosesNever : ℕ → List ℕ → Type 0
ClosesNever before bytes =
    (label rest : List ℕ) → is_spelling_after before label ≡ true → bytes ≡ label ++ 34 ∷ rest → ⊥

-- ---- what the bytes spell is found in them

gap_again : (gap rest : List ℕ) (at : ℕ) → IsGap gap
    → lex Gap at (gap ++ rest) ≡ lex Gap (at + length gap) rest
unfolding lex
gap_again [] rest at h = let e : at ≡ at + 0 = omega arith in ap (λ (i : ℕ). lex Gap i rest) e
gap_again (b ∷ gap) rest at h =
    grind (arith, nat_tests, gap_again gap rest (at + 1) h.1)

bare_again : (bs acc rest : List ℕ) (start at : ℕ) → AllBare bs
    → lex (InBare start acc) at (bs ++ rest) ≡ lex (InBare start (acc ++ bs)) (at + length bs) rest
unfolding lex
bare_again [] acc rest start at h = grind (arith, append-nil)
bare_again (b ∷ bs) acc rest start at h =
    grind (arith, append_assoc, bare_again bs (acc ++ b ∷ []) rest start (at + 1) h.1)

-- a byte of a label does not close it, and a byte that does not close it may be one of its bytes
goes_on : (quote escaped : Bool) → (not quote || escaped) ≡ true → (quote && not escaped) ≡ false
goes_on quote escaped h = grind arith

goes_on_back : (quote escaped : Bool) → (quote && not escaped) ≡ false
    → (not quote || escaped) ≡ true
goes_on_back quote escaped h = grind arith

pub text_again : (l acc rest : List ℕ) (start at before : ℕ) → is_spelling_after before l ≡ true
    → lex (InText start before acc) at (l ++ 34 ∷ rest)
    ≡ lexeme start (at + length l + 1) (Text (acc ++ l)) ∷ lex Gap (at + length l + 1) rest
unfolding lex
text_again [] acc rest start at before h = grind (arith, append-nil)
text_again (b ∷ l) acc rest start at before h =
    let k = and_parts (not (b == 34) || before == 92) (is_spelling_after b l) h in
    let e : at + 1 + length l + 1 ≡ at + suc (length l) + 1 = omega arith in
    rw (goes_on (b == 34) (before == 92) k.0)
    (text_again l (acc ++ b ∷ []) rest start (at + 1) b k.1
    ∙ ap (λ (i : ℕ). lexeme start i (Text ((acc ++ b ∷ []) ++ l)) ∷ lex Gap i rest) e
    ∙ ap (λ (x : List ℕ). lexeme start (at + suc (length l) + 1) (Text x)
    ∷ lex Gap (at + suc (length l) + 1) rest) (append_assoc acc (b ∷ []) l))

-- one byte further, no label is closed either
closes_never_on : (b before : ℕ) (bs : List ℕ) → ((b == 34) && not (before == 92)) ≡ false
    → ClosesNever before (b ∷ bs) → ClosesNever b bs
closes_never_on b before bs s h =
    λ label rest spelled parts. h (b ∷ label) rest
    (rw (goes_on_back (b == 34) (before == 92) s) spelled) (ap (λ (x : List ℕ). b ∷ x) parts)

text_breaks : (bytes acc : List ℕ) (start at before : ℕ) → ClosesNever before bytes
    → lex (InText start before acc) at bytes ≡ lexeme start (start + 1) Broken ∷ []
unfolding lex
text_breaks [] acc start at before h = refl
text_breaks (b ∷ bs) acc start at before h =
    elim (cases_Bool ((b == 34) && not (before == 92))) [
      | inl s ↦
          let q = and_parts (b == 34) (not (before == 92)) s in
          absurd (h [] bs q.1 (ap (λ (x : ℕ). x ∷ bs) ((Decides-eqb b 34).0 q.0)))
      | inr s ↦ rw s (text_breaks bs (acc ++ b ∷ []) start (at + 1) b
          (closes_never_on b before bs s h))
    ]

-- a token, and what the bytes after it spell
pub token_again : (t : Token) (at : ℕ) (rest : List ℕ) (others : List Lexeme) → IsSpelled t
    → MayPrecede t rest → GoesOn t others (lex Gap (at + length (spelling t)) rest ≡ others)
    → lex Gap at (spelling t ++ rest) ≡ lexeme at (at + length (spelling t)) t ∷ others
unfolding lex
token_again t at rest others h s k =
    grind (arith, length-append, append_assoc, text_again, bare_again, text_breaks)

goes_on_map : (t : Token) (others : List Lexeme) (A B : Type 0) → (A → B) → GoesOn t others A
    → GoesOn t others B
goes_on_map t others A B f g = grind arith

made : (l : Lexeme) (a b : ℕ) → l.start ≡ a → b ≡ l.end → lexeme a b l.token ≡ l
made l a b p q = rw (← p, q) refl

pub spelled : (ls : List Lexeme) (at : ℕ) (bytes : List ℕ) → Spells at bytes ls
    → lex Gap at bytes ≡ ls
unfolding lex
spelled [] at bytes h = ap (lex Gap at) (sym (append-nil bytes)) ∙ gap_again bytes [] at h
spelled (l ∷ ls) at bytes h =
    let first = h.0 in
    let begin = at + length first.gap in
    let end = begin + length (spelling l.token) in
    let e : l.end ≡ end = omega (arith, first.start, first.end) in
    let further =
    goes_on_map l.token ls (Spells l.end first.rest ls) (lex Gap end first.rest ≡ ls)
    (λ s. ap (λ (i : ℕ). lex Gap i first.rest) (sym e) ∙ spelled ls l.end first.rest s) h.1 in
    ap (lex Gap at) first.parts
    ∙ gap_again first.gap (spelling l.token ++ first.rest) at first.is_gap
    ∙ (grind (arith, length-append, append_assoc, text_again, bare_again, text_breaks))
    ∙ ap (λ (x : Lexeme). x ∷ ls) (made l begin end first.start (sym e))

-- ---- what is found is spelled so

-- what comes after an open bare token
record BareEnds (start : ℕ) (text : List ℕ) (at : ℕ) (bytes : List ℕ)
    (ls : List Lexeme) : Type 0 where
  more : List ℕ
  rest : List ℕ
  others : List Lexeme
  parts : bytes ≡ more ++ rest
  bare : AllBare more
  first : ls ≡ lexeme start (at + length more) (Bare (text ++ more)) ∷ others
  stands : MayPrecede (Bare (text ++ more)) rest
  then : Spells (at + length more) rest others

-- what comes after an open text
data TextEnds (start before : ℕ) (text : List ℕ) (at : ℕ) (bytes : List ℕ)
    (ls : List Lexeme) : Type 0 where
  closed : (more rest : List ℕ) (others : List Lexeme) → bytes ≡ more ++ 34 ∷ rest
      → is_spelling_after before more ≡ true
      → ls ≡ lexeme start (at + length more + 1) (Text (text ++ more)) ∷ others
      → Spells (at + length more + 1) rest others → TextEnds start before text at bytes ls
  never : ClosesNever before bytes → ls ≡ lexeme start (start + 1) Broken ∷ []
      → TextEnds start before text at bytes ls

abbrev Means : Mode → ℕ → List ℕ → List Lexeme → Type 0
Means Gap at bytes ls = Spells at bytes ls
Means (InBare start text) at bytes ls = BareEnds start text at bytes ls
Means (InText start before text) at bytes ls = TextEnds start before text at bytes ls

-- which byte it is
data Class (b : ℕ) : Type 0 where
  space : is_space b ≡ true → Class b
  opening : b ≡ 123 → Class b
  closing : b ≡ 125 → Class b
  comma : b ≡ 44 → Class b
  quote : b ≡ 34 → Class b
  bare : is_bare b ≡ true → Class b

-- a gap with a byte of whitespace before it
pub wider : (ls : List Lexeme) (b at : ℕ) (bs : List ℕ) → is_space b ≡ true → Spells (at + 1) bs ls
    → Spells at (b ∷ bs) ls
wider [] b at bs s h = (s, h)
wider (l ∷ ls) b at bs s h =
    let first = h.0 in (
      record {
        gap = b ∷ first.gap;
        rest = first.rest;
        parts = ap (λ (x : List ℕ). b ∷ x) first.parts;
        is_gap = (s, first.is_gap);
        is_spelled = first.is_spelled;
        may_precede = first.may_precede;
        start = omega (arith, first.start);
        end = first.end;
      },
      h.1,
    )

-- one token first
after_one : (t : Token) (start end : ℕ) (rest : List ℕ) (ls : List Lexeme) → IsSpelled t
    → MayPrecede t rest → end ≡ start + length (spelling t) → GoesOn t ls (Spells end rest ls)
    → Spells start (spelling t ++ rest) (lexeme start end t ∷ ls)
after_one t start end rest ls h s e k = (
  record {
    gap = [];
    rest = rest;
    parts = refl;
    is_gap = tt;
    is_spelled = h;
    may_precede = s;
    start = omega arith;
    end = e;
  },
  k,
)

-- what is found in these bytes
abbrev Known : ℕ → List ℕ → Type 0
Known at bs = (m : Mode) → Means m at bs (lex m at bs)

abbrev from_gap : ℕ → ℕ → List ℕ → List Lexeme
from_gap b at bs = single at b ++ lex (begins at b) (at + 1) bs

abbrev Goal : ℕ → ℕ → List ℕ → Type 0
Goal at b bs = Spells at (b ∷ bs) (from_gap b at bs)

text_parts : (at : ℕ) (bs : List ℕ) (ls : List Lexeme) → TextEnds at 34 [] (at + 1) bs ls
    → Spells at (34 ∷ bs) ls
text_parts at bs ls (closed more rest others parts label first then) =
    let e : at + 1 + length more + 1 ≡ at + length (spelling (Text more)) =
    omega (arith, length-append more (34 ∷ [])) in
    let found = lexeme at (at + 1 + length more + 1) (Text more) in
    let all : Spells at (34 ∷ ((more ++ 34 ∷ []) ++ rest)) (found ∷ others) =
    after_one (Text more) at (at + 1 + length more + 1) rest others label tt e then in
    let k : 34 ∷ ((more ++ 34 ∷ []) ++ rest) ≡ 34 ∷ bs =
    ap (λ (x : List ℕ). 34 ∷ x) (append_assoc more (34 ∷ []) rest ∙ sym parts) in
    subst (λ (x : List Lexeme). Spells at (34 ∷ bs) x) (sym first)
    (subst (λ (x : List ℕ). Spells at x (found ∷ others)) k all)
text_parts at bs ls (never none first) = grind (arith, after_one Broken)

bare_parts : (b at : ℕ) (bs : List ℕ) (ls : List Lexeme) → is_bare b ≡ true
    → BareEnds at (b ∷ []) (at + 1) bs ls → Spells at (b ∷ bs) ls
bare_parts b at bs ls s h =
    let e : at + 1 + length h.more ≡ at + length (b ∷ h.more) = omega arith in
    let found = lexeme at (at + 1 + length h.more) (Bare (b ∷ h.more)) in
    let all : Spells at (b ∷ (h.more ++ h.rest)) (found ∷ h.others) =
    after_one (Bare (b ∷ h.more)) at (at + 1 + length h.more) h.rest h.others
    (s, h.bare) h.stands e h.then in
    subst (λ (x : List Lexeme). Spells at (b ∷ bs) x) (sym h.first)
    (subst (λ (x : List ℕ). Spells at x (found ∷ h.others))
    (ap (λ (x : List ℕ). b ∷ x) (sym h.parts)) all)

at_opening : (at : ℕ) (bs : List ℕ) → Known (at + 1) bs → Goal at 123 bs
at_opening at bs ih = after_one Opening at (at + 1) bs (lex Gap (at + 1) bs) tt tt refl (ih Gap)

at_closing : (at : ℕ) (bs : List ℕ) → Known (at + 1) bs → Goal at 125 bs
at_closing at bs ih = after_one Closing at (at + 1) bs (lex Gap (at + 1) bs) tt tt refl (ih Gap)

at_comma : (at : ℕ) (bs : List ℕ) → Known (at + 1) bs → Goal at 44 bs
at_comma at bs ih = after_one Comma at (at + 1) bs (lex Gap (at + 1) bs) tt tt refl (ih Gap)

at_quote : (at : ℕ) (bs : List ℕ) → Known (at + 1) bs → Goal at 34 bs
at_quote at bs ih = text_parts at bs (lex (InText at 34 []) (at + 1) bs) (ih (InText at 34 []))

gap_step : (b at : ℕ) (bs : List ℕ) → Class b → Known (at + 1) bs → Goal at b bs
gap_step b at bs (space s) ih = grind (arith, nat_tests, wider)
gap_step b at bs (opening s) ih = subst (λ (x : ℕ). Goal at x bs) (sym s) (at_opening at bs ih)
gap_step b at bs (closing s) ih = subst (λ (x : ℕ). Goal at x bs) (sym s) (at_closing at bs ih)
gap_step b at bs (comma s) ih = subst (λ (x : ℕ). Goal at x bs) (sym s) (at_comma at bs ih)
gap_step b at bs (quote s) ih = subst (λ (x : ℕ). Goal at x bs) (sym s) (at_quote at bs ih)
gap_step b at bs (bare s) ih = grind (arith, nat_tests, bare_parts)

bare_step : (b at start : ℕ) (text bs : List ℕ) (c : Bool) → is_bare b ≡ c → Known (at + 1) bs
    → BareEnds start text at (b ∷ bs) (cond c [] (lexeme start at (Bare text) ∷ single at b)
    ++ lex (cond c (InBare start (text ++ b ∷ [])) (begins at b)) (at + 1) bs)
bare_step b at start text bs true s ih = grind (arith, append_assoc)
bare_step b at start text bs false s ih =
    let e : at ≡ at + 0 = omega arith in
    record {
      more = [];
      rest = b ∷ bs;
      others = from_gap b at bs;
      parts = refl;
      bare = tt;
      first = grind (arith, append-nil);
      stands = s;
      then =
          subst (λ (i : ℕ). Spells i (b ∷ bs) (from_gap b at bs)) e
          (gap_step b at bs (grind arith) ih);
    }

-- with one byte before that closes no text, no label is closed either
closes_never_back : (b before : ℕ) (bs : List ℕ) → ((b == 34) && not (before == 92)) ≡ false
    → ClosesNever b bs → ClosesNever before (b ∷ bs)
closes_never_back b before bs s h [] rest spelled parts = cc
closes_never_back b before bs s h (c ∷ label) rest spelled parts = grind arith

text_on : (b at start before : ℕ) (text bs : List ℕ) (ls : List Lexeme)
    → ((b == 34) && not (before == 92)) ≡ false
    → TextEnds start b (text ++ b ∷ []) (at + 1) bs ls → TextEnds start before text at (b ∷ bs) ls
text_on b at start before text bs ls s (closed more rest others parts label first then) =
    let e : at + 1 + length more + 1 ≡ at + length (b ∷ more) + 1 = omega arith in
    closed (b ∷ more) rest others (ap (λ (x : List ℕ). b ∷ x) parts)
    (rw (goes_on_back (b == 34) (before == 92) s) label)
    (first ∙ ap (λ (x : List ℕ). lexeme start (at + 1 + length more + 1) (Text x) ∷ others)
    (append_assoc text (b ∷ []) more)
    ∙ ap (λ (i : ℕ). lexeme start i (Text (text ++ b ∷ more)) ∷ others) e)
    (subst (λ (i : ℕ). Spells i rest others) e then)
text_on b at start before text bs ls s (never none first) =
    never (closes_never_back b before bs s none) first

text_step : (b at start before : ℕ) (text bs : List ℕ) (c : Bool)
    → ((b == 34) && not (before == 92)) ≡ c → Known (at + 1) bs
    → TextEnds start before text at (b ∷ bs) (cond c (lexeme start (at + 1) (Text text) ∷ []) []
    ++ lex (cond c Gap (InText start b (text ++ b ∷ []))) (at + 1) bs)
text_step b at start before text bs true s ih =
    let q = and_parts (b == 34) (not (before == 92)) s in
    let e : at + 1 ≡ at + 0 + 1 = omega arith in
    closed [] bs (lex Gap (at + 1) bs) (ap (λ (x : ℕ). x ∷ bs) ((Decides-eqb b 34).0 q.0)) q.1
    (ap (λ (x : List ℕ). lexeme start (at + 1) (Text x) ∷ lex Gap (at + 1) bs)
    (sym (append-nil text))
    ∙ ap (λ (i : ℕ). lexeme start i (Text (text ++ [])) ∷ lex Gap (at + 1) bs) e)
    (subst (λ (i : ℕ). Spells i bs (lex Gap (at + 1) bs)) e (ih Gap))
text_step b at start before text bs false s ih =
    text_on b at start before text bs (lex (InText start b (text ++ b ∷ [])) (at + 1) bs) s
    (ih (InText start b (text ++ b ∷ [])))

-- the empty list is not a label followed by a quote
closes_never_none : (before : ℕ) → ClosesNever before []
closes_never_none before [] rest spelled parts = absurd cc
closes_never_none before (c ∷ label) rest spelled parts = absurd cc

means : (bytes : List ℕ) (at : ℕ) → Known at bytes
unfolding lex
means [] at Gap = tt
means [] at (InText start before text) = never (closes_never_none before) refl
means [] at (InBare start text) = grind (arith, append-nil text)
means (b ∷ bs) at Gap = gap_step b at bs (grind arith) (means bs (at + 1))
means (b ∷ bs) at (InBare start text) = grind (arith, bare_step, means bs (at + 1))
means (b ∷ bs) at (InText start before text) =
    text_step b at start before text bs ((b == 34) && not (before == 92)) refl (means bs (at + 1))

pub found : (bytes : List ℕ) (at : ℕ) → Spells at bytes (lex Gap at bytes)
found bytes at = means bytes at Gap

-- ---- the law

pub same_tokens : (bytes : List ℕ) (ls others : List Lexeme) → Spells 0 bytes ls
    → Spells 0 bytes others → ls ≡ others
same_tokens bytes ls others h k = sym (spelled ls 0 bytes h) ∙ spelled others 0 bytes k

pub spelled_once : (bytes : List ℕ)
    → (ls : List Lexeme) × Spells 0 bytes ls
    × ((others : List Lexeme) → Spells 0 bytes others → others ≡ ls)
spelled_once bytes = (lex Gap 0 bytes, found bytes 0, λ others h. sym (spelled others 0 bytes h))
