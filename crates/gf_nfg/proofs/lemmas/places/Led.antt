-- The machine reads the strategic files. No token makes the number of profiles smaller, so above
-- their limit they stay there.
use Rattle.gf_nfg.proofs.Common.{BeginsWithinLimit, StaysWithinLimit, IsBareOrClosing, SpellsTable}
use Rattle.gf_nfg.proofs.Common.{IsStrategicFile, profile_limit, same_tokens, append-nil, tokens_of}
use Rattle.gf_nfg.proofs.Common.{nat_tests, Position, Sentence, table_of, is_past, Content, nat_lt}
use Rattle.gf_nfg.proofs.Common.{finish, within, Lexeme, Spells, Result, length, Table, State, step}
use Rattle.gf_nfg.proofs.Common.{start, taken, Token, arith, subst, List, ◌++◌, run, Err, Why, sym}
use Rattle.gf_nfg.proofs.Common.{◌<◌, ◌∙◌, ◌∷◌, ◌≡◌, ◌≤◌, at, Ok, [], ℕ}
use Rattle.gf_token.specs.Offered as any_format
use Rattle.gf_token.proofs.Offered.{IsReader, kept, run_after, run_split, run_whole, then_ok}
use Rattle.gf_token.proofs.Offered.{walk_more, walk_split}
use Rattle.gf_nfg.proofs.lemmas.runs.Ends.{ends, reached}
use Rattle.gf_nfg.proofs.lemmas.runs.Sentence.{Read, one_table, sentence_again, sentence_found}
use Rattle.gf_nfg.proofs.lemmas.runs.Common.{Leads, walk}
use Rattle.gf_nfg.proofs.lemmas.tables.Meaning.{length-entries}

-- ---- what is read

-- the machine reads the strategic files
pub is_reader : IsReader step finish start IsStrategicFile
is_reader = record {
  is_file = λ ts r e. (table_of r, (sentence_found ts r e).sentence);
  is_read = λ ts file. grind (arith, sentence_again ts file.0 file.1);
  ends = λ ts s h. grind (arith, ends s.position s.content);
}

-- what all tokens mean
abbrev pub IsRead : List ℕ → Content → Type 0
IsRead bytes c = (ls : List Lexeme) × Spells 0 bytes ls × Read (tokens_of ls) c

-- and so one table at most
pub spelled_as : (bytes : List ℕ) (all : List Lexeme) (t : Table)
    → Spells 0 bytes all → SpellsTable bytes t → Sentence (tokens_of all) t
spelled_as bytes all t h k = grind (arith, same_tokens)

pub spells_one_table : (bytes : List ℕ) (t u : Table) → SpellsTable bytes t → SpellsTable bytes u
    → t ≡ u
spells_one_table bytes t u h k = one_table (tokens_of h.0) t u h.2 (spelled_as bytes h.0 u h.1 k)

-- ---- profiles

-- within their limit
abbrev pub IsWithin : State → Type 0
IsWithin s = s.content.profiles ≤ profile_limit

-- A token makes them no fewer. If it increases their number, it is one of these, and after one of
-- these no list is open. The limit is looked at wherever they may pass it.
pub record Changes (s after : State) (t : Token) : Type 0 where
  pub grows : s.content.profiles ≤ after.content.profiles
  pub makes_more : s.content.profiles < after.content.profiles → IsBareOrClosing t
  pub settles : IsBareOrClosing t
      → reached after.position after.content.profiles ≡ after.content.profiles
  pub looked_at : IsWithin s
      → is_past after.position after.content.profiles ≡ nat_lt profile_limit after.content.profiles

abbrev ChangesBy : State → Token → Result State Why → Type 0
ChangesBy s t (Ok after) = Changes s after t
ChangesBy s t (Err why) = Unit {0}

changes_by : (q : Position) (c : Content) (t : Token)
    → ChangesBy (at q c) t (step (at q c) t)
changes_by q c t = grind (arith, nat_tests)

pub changes : (s after : State) (t : Token) → step s t ≡ Ok after → Changes s after t
changes s after t e = subst (ChangesBy s t) e (changes_by s.position s.content t)

-- where tokens lead that do not pass it
pub stays : (ts : List Token) (s after : State) → IsWithin s → any_format.walk taken s ts ≡ Ok after
    → (walk s ts ≡ Ok after) × IsWithin after
stays [] s after few e = let same : s ≡ after = cc in (e, subst IsWithin same few)
stays (t ∷ ts) s after few e = grind (arith, then_ok, any_format.walk, stays ts)

pub read_stays : (ts : List Token) (c : Content) → any_format.run taken finish start ts ≡ Ok c
    → (run start ts ≡ Ok c) × (c.profiles ≤ profile_limit)
read_stays ts c e =
    grind (arith, stays, run_whole, run_split taken finish ts [] start c (cc (append-nil ts, e)))

-- ---- above the limit

-- a walk makes them no fewer
walk_grows : (ts : List Token) (s after : State) → walk s ts ≡ Ok after
    → s.content.profiles ≤ after.content.profiles
walk_grows ts s after e = kept step (λ x. s.content.profiles ≤ x.content.profiles)
    (λ x y t k f. let more = changes x y t f in omega (arith, k, more.grows)) ts s after
    (omega arith) e

-- so they are taken, if they lead to a state within the limit
pub takes : (ts : List Token) (s after : State) → walk s ts ≡ Ok after → IsWithin after
    → any_format.walk taken s ts ≡ Ok after
takes [] s after e few = e
takes (t ∷ ts) s after e few =
    let h = then_ok (step s t) (λ x. walk x ts) after e in
    grind (arith, walk_grows ts h.0 after h.2, takes ts, changes, nat_tests)

-- nor does a run that ends well
run_grows : (ts : List Token) (s : State) (r : Content) → run s ts ≡ Ok r
    → s.content.profiles ≤ r.profiles
run_grows ts s r e =
    grind (arith, run_split step finish ts [] s r, append-nil ts, walk_grows ts s)

-- a file has the profiles that were read
size_read : (ts : List Token) (r : Content) → run start ts ≡ Ok r
    → length (table_of r).entries ≡ r.profiles
size_read ts r e = length-entries r (sentence_found ts r e).complete

pub read_past : (ts : List Token) (s : State) → Leads ts s → (more : List Token) (t : Table)
    → Sentence (ts ++ more) t → s.content.profiles ≤ length t.entries
read_past ts s h more t sentence =
    let p = sentence_again (ts ++ more) t sentence in
    let run = sym (run_after step finish ts more start s h) ∙ p.read in
    grind (arith, size_read, run_grows)

pub begins_within : (ts : List Token) (s : State) → Leads ts s
    → reached s.position s.content.profiles ≤ profile_limit → BeginsWithinLimit ts
begins_within ts s h within =
    let e = ends s.position s.content in
    let all : run start (ts ++ e.more) ≡ Ok e.read =
    run_after step finish ts e.more start s h ∙ e.goes_on in
    grind (arith, sentence_found, e.count, size_read (ts ++ e.more) e.read all)

-- up to there the limit was not passed
pub stays_within : (ts : List Token) (s : State) → Leads ts s → s.content.profiles ≤ profile_limit
    → StaysWithinLimit ts
stays_within ts s h within front back token parts is =
    let a = walk_split step front (token ∷ back) start s (cc (h, parts)) in
    let b = then_ok (step a.0 token) (λ x. walk x back) s a.2 in
    let leads = walk_more step front token start a.0 b.0 a.1 b.1 in
    begins_within (front ++ token ∷ []) b.0 leads
    (omega (arith, walk_grows back b.0 s b.2, within, (changes a.0 b.0 token b.1).settles is))
