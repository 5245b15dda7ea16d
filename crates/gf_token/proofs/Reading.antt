-- A machine that reads the files of a language: where it goes on, some file does, and where it
-- refuses, none does.
use Rattle.std.proofs.Common.{◌≡◌, ℕ, false, List, [], ◌∷◌, ◌++◌, length, Result, Ok, rules}
use Rattle.std.proofs.Common.{refl, ◌∙◌, arith}
use Rattle.std.specs.Prelude.{is_ok}
use Rattle.gf_token.specs.Place.{tokens_of, Begins, IsAccepted, IsAcceptedThrough, IsSpanOf}
use Rattle.gf_token.specs.Place.{MayFollow}
use Rattle.gf_token.specs.Token.{Token, Lexeme}
use Rattle.gf_token.specs.TokenSpelling.{Spells}
use Rattle.gf_token.specs.declared.fault.Span.{Span}
use Rattle.gf_token.specs.declared.fault.Why.{Why}
use Rattle.gf_token.specs.inner.Machine.{run, read_on, walk, HasPassed}
use Rattle.gf_token.proofs.SpelledTokens.{AllSpelled}
use Rattle.gf_token.proofs.TokensAhead.{all_in_order}
use Rattle.gf_token.proofs.Walks.{run_after, run_split, run_whole, walk_more, passed}
use Rattle.gf_token.proofs.Walks.{GoesThrough, StopsAt}

-- what is read is a file, each file is read, and each state that tokens lead to can be completed,
-- by tokens that are spelled if these are
pub record IsReader {S C : Type 0} (step : S → Token → Result S Why) (finish : S → Result C Why)
    (start : S) (IsFile : List Token → Type 0) : Type 0 where
  pub is_file : (ts : List Token) (r : C) → run step finish start ts ≡ Ok r → IsFile ts
  pub is_read : (ts : List Token) → IsFile ts → (r : C) × (run step finish start ts ≡ Ok r)
  pub ends : (ts : List Token) (s : S) → walk step start ts ≡ Ok s
      → (more : List Token) × (r : C) × (run step finish s more ≡ Ok r)
      × (AllSpelled ts → AllSpelled more)

module _ {S C : Type 0} {step : S → Token → Result S Why} {finish : S → Result C Why} {start : S}
    {IsFile : List Token → Type 0} (reader : IsReader step finish start IsFile) where
  pub begins : (ts : List Token) (s : S) → walk step start ts ≡ Ok s → Begins IsFile ts
  begins ts s h =
      let e = reader.ends ts s h in
      (e.0, reader.is_file (ts ++ e.0) e.1 (run_after step finish ts e.0 start s h ∙ e.2))

  pub follows : (ts : List Token) (t : Token) (s after : S) → walk step start ts ≡ Ok s
      → step s t ≡ Ok after → MayFollow IsFile ts t
  follows ts t s after h e = begins (ts ++ t ∷ []) after (walk_more step ts t start s after h e)

  -- tokens that some file begins with lead to a state
  pub leads : (ts : List Token) → Begins IsFile ts → (s : S) × (walk step start ts ≡ Ok s)
  leads ts b =
      search (rules, run_split)

  -- if it refuses some tokens, no file begins with them
  pub stops : (ts us : List Token) (s : S) → walk step start ts ≡ Ok s
      → is_ok (walk step s us) ≡ false → ¬ (Begins IsFile (ts ++ us))
  stops ts us s h e b =
      let l = leads (ts ++ us) b in
      let same = run_after step (λ x. Ok x) ts us start s h in
      grind arith

  -- nor is one accepted where it stops
  pub not_accepted : (before after : List Token) (s : S) (why : Why) → walk step start before ≡ Ok s
      → StopsAt step finish s after why → ¬ (IsAccepted IsFile before after)
  not_accepted before [] s why h e =
      search (rules, run_whole)
  not_accepted before (t ∷ after) s why h e = stops before (t ∷ []) s h (rw e refl)

  -- if it has passed a place, some file goes on there
  pub accepted : (bytes : List ℕ) (before after : List Lexeme) (span : Span)
      → Spells 0 bytes (before ++ after) → IsSpanOf after (length bytes) span
      → HasPassed (read_on step finish (length bytes) start (before ++ after)) span.start
      → IsAcceptedThrough IsFile bytes span
  accepted bytes before after span spelled place h = record {
    before = before;
    after = after;
    spelled = spelled;
    place = place;
    accepted = by after (passed step finish (length bytes) 0 before after span start
        (all_in_order bytes (before ++ after) spelled) place h);
  }
    where
      by : (after : List Lexeme)
          → GoesThrough step finish start (tokens_of before) (tokens_of after)
          → IsAccepted IsFile (tokens_of before) (tokens_of after)
      by [] g = reader.is_file (tokens_of before) g.0 g.1
      by (l ∷ after) g = begins (tokens_of before ++ l.token ∷ []) g.0 g.1
