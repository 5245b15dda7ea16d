-- What the methods of the reader rest on: answers carried back, and steps with a test of what is
-- due.
use Rattle.gf_nfg.proofs.Common
use Common.{StandsBefore, content_told, MatchResult, HasToldAll, content_in, length-map, Remaining}
use Common.{Position, StandsAt, Telling, Content, Heading, Opening, read_on, Answer, Lexeme, Memory}
use Common.{Reader, Result, answer, length, lexeme, Fails, Fault, arith, heard, List}
use Common.{Span, Text, Told, false, refl, Err, ◌-◌, ◌<◌, ◌∙◌, ◌∷◌, ◌≡◌, at, Ok, [], ap, p, ℕ}
use Rattle.gf_nfg.proofs.lemmas.places.Judged.{carried, lacks_memory}
use Rattle.gf_nfg.specs.declared.receive.Version.{Version}
pub use Rattle.gf_token.proofs.Offered.{goes_back, fails_back as ends_back}

-- ---- lists of labels

pub first_opens : (due : ℕ) (c : Content) (t new : Remaining) (s : Span) → 0 < due
    → t.ahead ≡ lexeme s.start s.end Opening ∷ new.ahead → new.input ≡ t.input
    → heard (at (p.FirstStrategies due) c) t ≡ heard (at (p.InList (due - 1) 0) c) new
first_opens due c t new s some next input = grind arith

-- ---- outcomes

pub outcome_opened : {T : Type 0} {holds : T → T → Told → Type 0} {b : Telling T} {to : T}
    {outcomes start end : ℕ} {t new : Remaining} → StandsAt holds b (p.InOutcomes outcomes) t to
    → t.ahead ≡ lexeme start end Opening ∷ new.ahead → new.input ≡ t.input
    → StandsAt holds b (p.OutcomeName outcomes) new to
outcome_opened h next input = grind arith

-- after the name of an outcome, a payoff is due for each player
pub outcome_named : {T : Type 0} {holds : T → T → Told → Type 0} {b : Telling T} {to : T}
    {outcomes players start end : ℕ} {t new : Remaining} {label : List ℕ}
    → StandsAt holds b (p.OutcomeName outcomes) t to → length b.heading.players.items ≡ players
    → t.ahead ≡ lexeme start end (Text label) ∷ new.ahead → new.input ≡ t.input
    → StandsAt holds b (p.BracedPayoff false outcomes players) new to
outcome_named h size next input = grind (arith, length-map)

-- ---- after the last of the strategies

ends_alike : (end : ℕ) (c : Content) (ls : List Lexeme)
    → (read_on end (at (p.BeforeList 0) c) ls ≡ read_on end (at (p.FirstStrategies 0) c) ls)
    × (read_on end (at (p.Counts 0) c) ls ≡ read_on end (at (p.FirstStrategies 0) c) ls)
ends_alike end c [] = (refl, refl)
ends_alike end c (l ∷ ls) = (refl, refl)

pub lists_end : (c : Content) (t : Remaining)
    → heard (at (p.BeforeList 0) c) t ≡ heard (at (p.FirstStrategies 0) c) t
lists_end c t = grind (arith, ends_alike (length t.input) c t.ahead)

pub counts_end : (c : Content) (t : Remaining)
    → heard (at (p.Counts 0) c) t ≡ heard (at (p.FirstStrategies 0) c) t
counts_end c t = grind (arith, ends_alike (length t.input) c t.ahead)

-- memory may run out at the last token
pub memory_after : {f : Fault} {span : Span} (q : Position) (r : Reader)
    → StandsBefore r.tokens span → f ≡ record { span = span; why = Memory } → Fails f (answer q r)
memory_after q r stands is = lacks_memory stands is (at q (content_in r.heading)) refl

-- ---- the body

-- the end stands after all that was told
pub all_told : {A T : Type 0} (holds : T → Told → Type 0) (r : Result A Fault) (t : Told)
    {before after : Answer} {h : Heading} {to : T}
    → t.heading ≡ h → (t.version ≡ Version.Payoffs → t.numbers ≡ []) → holds to t → before ≡ after
    → MatchResult r (λ _. after.machine ≡ Ok (content_told t)) (λ f. Fails f after)
    → MatchResult r (λ _. HasToldAll holds before h to) (λ f. Fails f before)
all_told holds (Ok x) t same unnumbered holding goes whole = record {
  told = t;
  same = same;
  whole = ap (λ (a : Answer). a.machine) goes ∙ whole;
  unnumbered = unnumbered;
  holding = holding;
}
all_told holds (Err f) t same unnumbered holding goes fails = carried fails goes

pub ruleset first_steps = (first_opens, counts_end, lists_end)
