-- Where tokens lead a machine, what it has passed, and where it stops.
use Rattle.std.proofs.Common.{◌≡◌, ◌↔◌, ℕ, ◌<◌, ◌≤◌, List, [], ◌∷◌, ◌++◌, length, Result, Ok, Err}
use Rattle.std.proofs.Common.{refl, sym, ap, subst, ◌∙◌, append-nil, arith}
use Rattle.gf_token.specs.Place.{tokens_of, IsSpanOf}
use Rattle.gf_token.specs.Remaining.{AreInOrder, Remaining, StandsBefore}
use Rattle.gf_token.specs.Token.{Token, Lexeme}
use Rattle.gf_token.specs.TokenSpelling.{IsSpelled}
use Rattle.gf_token.specs.declared.fault.Fault.{Fault}
use Rattle.gf_token.specs.declared.fault.Span.{Span}
use Rattle.gf_token.specs.declared.fault.Why.{Why}
use Rattle.gf_token.specs.inner.Machine.{◌>>=◌, placed, run, read_on, walk, HasPassed}
use Rattle.gf_token.proofs.SpelledTokens.{AllSpelled}

pub then_ok : {A B E : Type 0} (o : Result A E) (f : A → Result B E) (r : B) → (o >>= f) ≡ Ok r
    → (mid : A) × (o ≡ Ok mid) × (f mid ≡ Ok r)
then_ok o f r e = grind arith

-- ---- where tokens lead

module _ {S : Type 0} (step : S → Token → Result S Why) where
  module _ {C : Type 0} (finish : S → Result C Why) where
    run_parts : (ts more : List Token) (s : S)
        → run step finish s (ts ++ more) ≡ (walk step s ts >>= λ after. run step finish after more)
    run_parts [] more s = refl
    run_parts (t ∷ ts) more s = grind (arith, run_parts ts more)

    pub run_split : (ts more : List Token) (s : S) (r : C) → run step finish s (ts ++ more) ≡ Ok r
        → (mid : S) × (walk step s ts ≡ Ok mid) × (run step finish mid more ≡ Ok r)
    run_split ts more s r e = then_ok (walk step s ts) (λ x. run step finish x more) r
        (sym (run_parts ts more s) ∙ e)

    pub run_after : (ts more : List Token) (s mid : S) → walk step s ts ≡ Ok mid
        → run step finish s (ts ++ more) ≡ run step finish mid more
    run_after ts more s mid h = cc (run_parts ts more s)

    pub run_whole : (ts : List Token) (s after : S) → walk step s ts ≡ Ok after
        → run step finish s ts ≡ finish after
    run_whole ts s after h = cc (append-nil ts, run_after ts [] s after h)

  pub walk_on : (ts us : List Token) (s mid after : S) → walk step s ts ≡ Ok mid
      → walk step mid us ≡ Ok after → walk step s (ts ++ us) ≡ Ok after
  walk_on ts us s mid after h e = run_after (λ x. Ok x) ts us s mid h ∙ e

  pub walk_split : (ts us : List Token) (s after : S) → walk step s (ts ++ us) ≡ Ok after
      → (mid : S) × (walk step s ts ≡ Ok mid) × (walk step mid us ≡ Ok after)
  walk_split ts us s after e = run_split (λ x. Ok x) ts us s after e

  pub walk_more : (ts : List Token) (t : Token) (s mid after : S) → walk step s ts ≡ Ok mid
      → step mid t ≡ Ok after → walk step s (ts ++ t ∷ []) ≡ Ok after
  walk_more ts t s mid after h e = walk_on ts (t ∷ []) s mid after h (rw e refl)

  -- what each step keeps holds wherever tokens lead
  pub kept : (P : S → Type 0) → ((s after : S) (t : Token) → P s → step s t ≡ Ok after → P after)
      → (ts : List Token) (s after : S) → P s → walk step s ts ≡ Ok after → P after
  kept P keeps [] s after holds e = let same : s ≡ after = cc in subst P same holds
  kept P keeps (t ∷ ts) s after holds e =
      let h = then_ok (step s t) (λ x. walk step x ts) after e in
      kept P keeps ts h.0 after (keeps s h.0 t holds h.1) h.2

  -- and so does what each step keeps by a token that is spelled, if something is given
  pub kept_by_spelled : (G : Type 0) (P : S → Type 0)
      → ((s after : S) (t : Token) → (G → IsSpelled t) → P s → step s t ≡ Ok after → P after)
      → (ts : List Token) (s after : S)
      → (G → AllSpelled ts) → P s → walk step s ts ≡ Ok after → P after
  kept_by_spelled G P keeps [] s after spelled holds e =
      let same : s ≡ after = cc in subst P same holds
  kept_by_spelled G P keeps (t ∷ ts) s after spelled holds e =
      let h = then_ok (step s t) (λ x. walk step x ts) after e in
      kept_by_spelled G P keeps ts h.0 after (λ g. (spelled g).1)
      (keeps s h.0 t (λ g. (spelled g).0) holds h.1) h.2

-- ---- tokens with their places

-- where tokens end, or one of them stands, they have begun
pub place_after : (end from : ℕ) (before after : List Lexeme) (span : Span)
    → AreInOrder end from (before ++ after) → IsSpanOf after end span → from ≤ span.start
place_after end from (z ∷ zs) after span order place =
    grind (arith, place_after end z.end zs after span order.2 place)
place_after end from before after span order place = grind arith

abbrev without_place : {C : Type 0} → Result C Fault → Result C Why
without_place (Ok r) = Ok r
without_place (Err fault) = Err fault.why

placed_at : {A : Type 0} (o : Result A Why) (start end : ℕ) (fault : Fault)
    → placed start end o ≡ Err fault
    → (o ≡ Err fault.why) × (fault.span.start ≡ start) × (fault.span.end ≡ end)
placed_at o start end fault e = grind arith

module _ {S C : Type 0} (step : S → Token → Result S Why) (finish : S → Result C Why) where
  run_without_places : (end : ℕ) (ls : List Lexeme) (s : S)
      → without_place (read_on step finish end s ls) ≡ run step finish s (tokens_of ls)
  run_without_places end [] s = grind arith
  run_without_places end (l ∷ ls) s = grind (arith, run_without_places end ls)

  -- places change nothing in what is read
  pub reads : (end : ℕ) (s : S) (ls : List Lexeme) (r : C)
      → read_on step finish end s ls ≡ Ok r ↔ run step finish s (tokens_of ls) ≡ Ok r
  reads end s ls r = let e = run_without_places end ls s in grind arith

  -- ---- what it has passed

  -- what is refused after a token begins after its start
  passed_on : (end from start : ℕ) → start < from → (s : S) (ls : List Lexeme)
      → AreInOrder end from ls → HasPassed (read_on step finish end s ls) start
  passed_on end from start less s [] order = grind arith
  passed_on end from start less s (l ∷ ls) order =
      let near = order.0 in
      let some = order.1 in
      let later = λ (after : S).
      passed_on end l.end start (omega (arith, less, near, some)) after ls order.2 in
      grind (arith, later)

  -- so if it goes on after a token, it has passed the token
  pub passed_before : (t : Remaining) (span : Span) → StandsBefore t span
      → (s : S) → HasPassed (read_on step finish (length t.input) s t.ahead) span.start
  passed_before t span h s = passed_on (length t.input) span.end span.start h.some s t.ahead h.order

  -- after the tokens before a place, it goes on with the one that stands there; at the end, it has
  -- read the tokens
  abbrev pub GoesThrough : S → List Token → List Token → Type 0
  GoesThrough s before [] = (r : C) × (run step finish s before ≡ Ok r)
  GoesThrough s before (t ∷ after) = (next : S) × (walk step s (before ++ t ∷ []) ≡ Ok next)

  goes_first : (t : Token) (s : S) (o : Result S Why) → step s t ≡ o
      → ((why : Why) → o ≡ Err why → ⊥) → (next : S) × (step s t ≡ Ok next)
  goes_first t s (Ok next) is none = (next, is)
  goes_first t s (Err why) is none = absurd (none why refl)

  goes_more : (t : Token) (s next : S) (before after : List Token) → step s t ≡ Ok next
      → GoesThrough next before after → GoesThrough s (t ∷ before) after
  goes_more t s next before [] is g = (g.0, rw is g.1)
  goes_more t s next before (u ∷ after) is g = (g.0, rw is g.1)

  ends_read : (o : Result C Why) (end : ℕ) → HasPassed (placed end end o) end → (r : C) × (o ≡ Ok r)
  ends_read (Ok r) end h = (r, refl)
  ends_read (Err why) end h = absurd (omega (arith, h))

  -- a place that it has passed
  pub passed : (end from : ℕ) (before after : List Lexeme) (span : Span) (s : S)
      → AreInOrder end from (before ++ after) → IsSpanOf after end span
      → HasPassed (read_on step finish end s (before ++ after)) span.start
      → GoesThrough s (tokens_of before) (tokens_of after)
  passed end from [] [] span s order place h = ends_read (finish s) end (rw place.0 at h)
  passed end from [] (l ∷ after) span s order place h =
      let k = goes_first l.token s (step s l.token) refl
      (λ why is. let early = rw is at h in omega (arith, early, place.0)) in
      (k.0, walk_more step [] l.token s s k.0 refl k.1)
  passed end from (z ∷ before) after span s order place h =
      let begun = place_after end z.end before after span order.2 place in
      let some = order.1 in
      let k = goes_first z.token s (step s z.token) refl
      (λ why is. let early = rw is at h in omega (arith, early, begun, some)) in
      goes_more z.token s k.0 (tokens_of before) (tokens_of after) k.1
      (passed end z.end before after span k.0 order.2 place (rw k.1 at h))

  -- ---- where it stops

  -- at the end, or at the next token
  abbrev pub StopsAt : S → List Token → Why → Type 0
  StopsAt s [] why = finish s ≡ Err why
  StopsAt s (t ∷ after) why = step s t ≡ Err why

  -- the tokens that it goes through, the state that they lead to, and the refusal there
  pub record Stopped (end : ℕ) (s : S) (ls : List Lexeme) (fault : Fault) : Type 0 where
    pub before : List Lexeme
    pub after : List Lexeme
    pub parts : ls ≡ before ++ after
    pub place : IsSpanOf after end fault.span
    pub state : S
    pub leads : walk step s (tokens_of before) ≡ Ok state
    pub stops : StopsAt state (tokens_of after) fault.why

  stopped_by : (end : ℕ) (s : S) (l : Lexeme) (ls : List Lexeme) (fault : Fault)
      (o : Result S Why) → step s l.token ≡ o
      → (placed l.start l.end o >>= λ next. read_on step finish end next ls) ≡ Err fault
      → ((next : S) → read_on step finish end next ls ≡ Err fault → Stopped end next ls fault)
      → Stopped end s (l ∷ ls) fault
  stopped_by end s l ls fault (Ok next) is e later =
      let h = later next e in
      record {
        before = l ∷ h.before;
        after = h.after;
        parts = ap (λ (x : List Lexeme). l ∷ x) h.parts;
        place = h.place;
        state = h.state;
        leads = rw is h.leads;
        stops = h.stops;
      }
  stopped_by end s l ls fault (Err why) is e later =
      let h = placed_at {A = C} (Err why) l.start l.end fault e in
      record {
        before = [];
        after = l ∷ ls;
        parts = refl;
        place = (h.1, h.2);
        state = s;
        leads = refl;
        stops = cc;
      }

  pub stopped : (end : ℕ) (s : S) (ls : List Lexeme) (fault : Fault)
      → read_on step finish end s ls ≡ Err fault → Stopped end s ls fault
  stopped end s [] fault e =
      let h : ((finish s) ≡ Err fault.why) × (fault.span.start ≡ end) × (fault.span.end ≡ end) = grind arith in
      record {
        before = [];
        after = [];
        parts = refl;
        place = (h.1, h.2);
        state = s;
        leads = refl;
        stops = h.0;
      }
  stopped end s (l ∷ ls) fault e = stopped_by end s l ls fault (step s l.token) refl e
      (λ next f. stopped end next ls fault f)
