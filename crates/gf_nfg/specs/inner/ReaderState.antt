-- What a reader and what it has read stand for, regardless of where they are in memory.
use Rattle.std.specs.Prelude.{◌≡◌, ℕ, ◌+◌, ◌-◌, ◌*◌, ◌^◌, min, List, [], length, map, Result, Ok}
use Rattle.std.specs.Prelude.{MatchResult}
use Rattle.gf_fraction.specs.Ratio.{Ratio}
use Rattle.gf_token.specs.Label.{label_of}
use Rattle.gf_token.specs.declared.label.Label.{Label}
use Rattle.gf_token.specs.declared.fault.Fault.{Fault}
use Rattle.gf_token.specs.declared.fault.Span.{Span}
use Rattle.gf_token.specs.Remaining.{Remaining}
use Rattle.gf_token.specs.Offered.{◌>>=◌, Fails, placed}
use Rattle.gf_nfg.specs.inner.Heard.{Answer, heard, read_on, within}
use Rattle.gf_nfg.specs.inner.Machine.{Content, at, with_count}
use Rattle.gf_nfg.specs.Position.{Position, Position as p}
use Rattle.gf_nfg.specs.inner.Told.{Told}
use Rattle.gf_nfg.specs.declared.heading.Heading.{Heading}
use Rattle.gf_nfg.specs.declared.reader.Reader.{Reader}
use Rattle.gf_nfg.specs.declared.receive.Kept.{Kept}
use Rattle.gf_nfg.specs.declared.receive.Version.{Version}

abbrev pub labels_of : List Label → List (List ℕ)
labels_of labels = map label_of labels

-- a heading, with these payoffs and these numbers of outcomes
abbrev pub content_with : Heading → List Ratio → List ℕ → Content
content_with h payoffs choices = record {
  title = label_of h.title;
  comment = label_of h.comment;
  players = labels_of h.players.items;
  counts = h.counts.items;
  labels = labels_of h.labels.items;
  profiles = h.profiles.count;
  payoffs = payoffs;
  choices = choices;
}

abbrev pub content_in : Heading → Content
content_in h = content_with h [] []

abbrev pub content_of : Heading → Kept → Content
content_of h kept = content_with h kept.payoffs.items kept.numbers.items

abbrev pub content_told : Told → Content
content_told t = content_with t.heading t.payoffs t.numbers

-- this many more players have their count
abbrev pub HasMore : ℕ → Heading → Heading → Type 0
HasMore n before after = (length after.counts.items ≡ length before.counts.items + n)
    × (after.players.items ≡ before.players.items)

-- each player has one
abbrev pub HasCounts : Heading → Type 0
HasCounts h = length h.counts.items ≡ length h.players.items

-- what the machine answers to the tokens that a reader has yet to read
abbrev pub answer : Position → Reader → Answer
answer q r = heard (at q (content_in r.heading)) r.tokens

-- the same if a token says that the next player has this many strategies
abbrev pub settling : Position → ℕ → Span → Reader → Answer
settling q strategies stands r = record {
  input = r.tokens.input;
  machine =
      placed stands.start stands.end
      (within (Ok (at q (with_count (content_in r.heading) strategies))))
      >>= λ after. read_on (length r.tokens.input) after r.tokens.ahead;
}

-- ---- the body

-- what the machine answers to the tokens to come, after this was told
abbrev pub told_answer : Position → Remaining → Told → Answer
told_answer q tokens t = heard (at q (content_told t)) tokens

-- where the body begins, which has this many payoffs if it is a flat list
abbrev pub body_at : Version → ℕ → Position
body_at Version.Payoffs left = p.FlatPayoffs left
body_at Version.Outcomes left = p.InOutcomes 0

abbrev pub body_answer : Version → Reader → Answer
body_answer v r = answer (body_at v (length r.heading.players.items * r.heading.profiles.count)) r

-- What a receiver was before it was told anything, what the machine answers where the body begins,
-- and the heading that was told.
pub record Telling (T : Type 0) : Type 0 where
  pub untold : T
  pub whole : Answer
  pub version : Version
  pub heading : Heading

-- the same, and the body as far as it was told
abbrev pub told_of : {T : Type 0} → Telling T → List Ratio → List ℕ → Told
told_of b payoffs numbers =
    record { version = b.version; heading = b.heading; payoffs = payoffs; numbers = numbers }

-- The receiver holds what it was told, and from there the machine gives its answer.
pub record StandsAt {T : Type 0} (holds : T → T → Told → Type 0) (b : Telling T) (q : Position)
    (tokens : Remaining) (to : T) : Type 0 where
  pub payoffs : List Ratio
  pub numbers : List ℕ
  pub unnumbered : b.version ≡ Version.Payoffs → numbers ≡ []
  pub goes : b.whole ≡ told_answer q tokens (told_of b payoffs numbers)
  pub holding : holds b.untold to (told_of b payoffs numbers)

-- a call leads from one such place to another
abbrev pub GoesTo : {T X : Type 0} → Telling T → Result X Fault → Type 0 → Type 0 → Type 0
GoesTo b result before after = before → MatchResult result (λ _. after) (λ f. Fails f b.whole)

-- of this many outcomes so many are counted: no index is greater
abbrev pub IsCounted : ℕ → ℕ → Type 0
IsCounted n counted = counted ≡ min n (2 ^ 32 - 1)

-- The receiver was told the whole file, to its end. In payoff version no numbers were told.
pub record HasToldAll {T : Type 0} (holds : T → Told → Type 0) (before : Answer) (heading : Heading)
    (to : T) : Type 0 where
  pub told : Told
  pub same : told.heading ≡ heading
  pub whole : before.machine ≡ Ok (content_told told)
  pub unnumbered : told.version ≡ Version.Payoffs → told.numbers ≡ []
  pub holding : holds to told
