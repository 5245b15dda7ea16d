-- The reader of strategic files as a machine: one token at a time. Sentence says what it means; no
-- public contract cites this file.
use Rattle.std.specs.Prelude.{ℕ, zero, suc, ◌+◌, ◌*◌, ◌||◌, true, false, List, [], ◌∷◌, ◌++◌}
use Rattle.std.specs.Prelude.{length, codes, Option, Some, None, Result, Ok, Err, nat_eq, nat_le}
use Rattle.std.specs.Prelude.{if◌then◌else◌}
use Rattle.std.specs.Cmp.Lexicographic.{pointwise}
use Rattle.gf_token.specs.Next.{is_broken}
use Rattle.gf_token.specs.Token.{Token}
use Rattle.gf_token.specs.Token.Token.{Opening, Closing, Comma, Text, Bare}
use Rattle.gf_token.specs.declared.fault.What.{What}
use Rattle.gf_token.specs.declared.fault.Why.{Why}
use Rattle.gf_fraction.specs.Ratio.{Ratio}
use Rattle.gf_fraction.specs.declared.fraction.NumberFault.{NumberFault}
use Rattle.gf_fraction.specs.Offered.{number_of}
use Rattle.gf_token.specs.NumberWhy.{why_of}
use Rattle.gf_token.specs.Offered as any_format
use Rattle.gf_token.specs.Offered.{count_of, index_of}
use Rattle.gf_nfg.specs.Position.{Position, Position as p}

-- What was read so far. `counts` says how many strategies each player has, `profiles` is the
-- product of the counts, and `labels` has the labels, or none if the file gives only counts.
-- `payoffs` are the rows of the profiles or of the outcomes; `choices` has an outcome's number for
-- each profile, or none in payoff version.
pub record Content : Type 0 where
  pub title : List ℕ
  pub comment : List ℕ
  pub players : List (List ℕ)
  pub counts : List ℕ
  pub labels : List (List ℕ)
  pub profiles : ℕ
  pub payoffs : List Ratio
  pub choices : List ℕ

-- Where the reader is, and what was read.
pub record State : Type 0 where
  pub position : Position
  pub content : Content

abbrev pub nothing : Content
nothing = record {
  title = [];
  comment = [];
  players = [];
  counts = [];
  labels = [];
  profiles = 1;
  payoffs = [];
  choices = [];
}

abbrev pub at : Position → Content → State
at q c = record { position = q; content = c }

abbrev pub with_title : Content → List ℕ → Content
with_title c title = record c { title = title }

abbrev pub with_comment : Content → List ℕ → Content
with_comment c comment = record c { comment = comment }

abbrev pub with_players : Content → List (List ℕ) → Content
with_players c players = record c { players = c.players ++ players }

abbrev pub with_labels : Content → List (List ℕ) → Content
with_labels c labels = record c { labels = c.labels ++ labels }

-- one more player has this many strategies
abbrev pub with_count : Content → ℕ → Content
with_count c n = record c { counts = c.counts ++ n ∷ []; profiles = c.profiles * n }

abbrev pub with_payoffs : Content → List Ratio → Content
with_payoffs c payoffs = record c { payoffs = c.payoffs ++ payoffs }

abbrev pub with_choices : Content → List ℕ → Content
with_choices c choices = record c { choices = c.choices ++ choices }

-- ---- what is due

-- what is due there, which a refusal of another token names
abbrev pub due_at : Position → What
due_at p.Format = What.Format
due_at p.Version = What.Version
due_at p.Letter = What.Letter
due_at p.Title = What.Text
due_at p.BeforePlayers = What.Opening
due_at p.InPlayers = What.Text
due_at p.BeforeStrategies = What.Opening
due_at (p.FirstStrategies zero) = What.Closing
due_at (p.FirstStrategies (suc left)) = What.Strategies
due_at (p.Counts zero) = What.Closing
due_at (p.Counts (suc left)) = What.Index
due_at (p.BeforeList zero) = What.Closing
due_at (p.BeforeList (suc left)) = What.Opening
due_at (p.InList left labels) = What.Text
due_at (p.AfterStrategies zero) = What.End
due_at (p.AfterStrategies (suc left)) = What.Number
due_at (p.AfterComment zero) = What.End
due_at (p.AfterComment (suc left)) = What.Number
due_at (p.FlatPayoffs zero) = What.End
due_at (p.FlatPayoffs (suc left)) = What.Number
due_at (p.InOutcomes outcomes) = What.Opening
due_at (p.OutcomeName outcomes) = What.Text
due_at (p.BracedPayoff may outcomes zero) = What.Closing
due_at (p.BracedPayoff may outcomes (suc left)) = What.Number
due_at (p.OutcomeNumbers outcomes zero) = What.End
due_at (p.OutcomeNumbers outcomes (suc left)) = What.Index

-- ---- what a token leads to

-- a count was due, before this many more, and these bytes stood there
abbrev pub counted : ℕ → Content → Option ℕ → Result State Why
counted left c None = Err Why.BadIndex
counted left c (Some n) = Ok (at (p.Counts left) (with_count c n))

-- a list with this many labels was closed, before this many more lists
abbrev pub listed : ℕ → Content → ℕ → Result State Why
listed left c zero = Err Why.NoEntry
listed left c (suc n) = Ok (at (p.BeforeList left) (with_count c (suc n)))

-- after the strategies, a payoff is due for each player at each profile
abbrev pub strategies_end : Content → State
strategies_end c = at (p.AfterStrategies (length c.players * c.profiles)) c

-- a payoff was due, and these bytes stood there
abbrev pub paid : Position → Content → Result Ratio NumberFault → Result State Why
paid q c (Err fault) = Err (why_of fault)
paid q c (Ok n) = Ok (at q (with_payoffs c (n ∷ [])))

-- after this many outcomes, the number of one was due, before this many more, and these bytes stood
-- there
abbrev pub chosen : ℕ → ℕ → Content → Option ℕ → Result State Why
chosen outcomes left c None = Err Why.BadIndex
chosen outcomes left c (Some k) =
    if nat_le k outcomes then Ok (at (p.OutcomeNumbers outcomes left) (with_choices c (k ∷ [])))
    else Err Why.UnknownOutcome

-- the next token at a position, if it is not an unterminated text
abbrev pub step_at : Position → Content → Token → Result State Why
step_at p.Format c (Bare b) =
    if pointwise nat_eq b (codes "NFG") then Ok (at p.Version c) else Err (Why.Expected What.Format)
step_at p.Version c (Bare b) =
    if pointwise nat_eq b (codes "1") then Ok (at p.Letter c) else Err (Why.Expected What.Version)
step_at p.Letter c (Bare b) =
    if pointwise nat_eq b (codes "R") || pointwise nat_eq b (codes "D") then Ok (at p.Title c)
    else Err (Why.Expected What.Letter)
step_at p.Title c (Text label) = Ok (at p.BeforePlayers (with_title c label))
step_at p.BeforePlayers c Opening = Ok (at p.InPlayers c)
step_at p.InPlayers c (Text label) = Ok (at p.InPlayers (with_players c (label ∷ [])))
step_at p.InPlayers c Closing = Ok (at p.BeforeStrategies c)
step_at p.BeforeStrategies c Opening = Ok (at (p.FirstStrategies (length c.players)) c)
step_at (p.FirstStrategies zero) c Closing = Ok (strategies_end c)
step_at (p.FirstStrategies (suc left)) c Opening = Ok (at (p.InList left 0) c)
step_at (p.FirstStrategies (suc left)) c (Bare b) = counted left c (count_of b)
step_at (p.Counts zero) c Closing = Ok (strategies_end c)
step_at (p.Counts (suc left)) c (Bare b) = counted left c (count_of b)
step_at (p.BeforeList zero) c Closing = Ok (strategies_end c)
step_at (p.BeforeList (suc left)) c Opening = Ok (at (p.InList left 0) c)
step_at (p.InList left labels) c (Text label) =
    Ok (at (p.InList left (labels + 1)) (with_labels c (label ∷ [])))
step_at (p.InList left labels) c Closing = listed left c labels
step_at (p.AfterStrategies left) c (Text label) =
    Ok (at (p.AfterComment left) (with_comment c label))
step_at (p.AfterStrategies left) c Opening = Ok (at (p.InOutcomes 0) c)
step_at (p.AfterStrategies (suc left)) c (Bare b) = paid (p.FlatPayoffs left) c (number_of b)
step_at (p.AfterComment left) c Opening = Ok (at (p.InOutcomes 0) c)
step_at (p.AfterComment (suc left)) c (Bare b) = paid (p.FlatPayoffs left) c (number_of b)
step_at (p.FlatPayoffs (suc left)) c (Bare b) = paid (p.FlatPayoffs left) c (number_of b)
step_at (p.InOutcomes outcomes) c Opening = Ok (at (p.OutcomeName outcomes) c)
step_at (p.InOutcomes outcomes) c Closing = Ok (at (p.OutcomeNumbers outcomes c.profiles) c)
step_at (p.OutcomeName outcomes) c (Text label) =
    Ok (at (p.BracedPayoff false outcomes (length c.players)) c)
step_at (p.BracedPayoff true outcomes left) c Comma = Ok (at (p.BracedPayoff false outcomes left) c)
step_at (p.BracedPayoff may outcomes zero) c Closing = Ok (at (p.InOutcomes (outcomes + 1)) c)
step_at (p.BracedPayoff may outcomes (suc left)) c (Bare b) =
    paid (p.BracedPayoff true outcomes left) c (number_of b)
step_at (p.OutcomeNumbers outcomes (suc left)) c (Bare b) = chosen outcomes left c (index_of b)
step_at q c t = Err (Why.Expected (due_at q))

-- the next token
abbrev pub step : State → Token → Result State Why
step s t = if is_broken t then Err Why.Unterminated else step_at s.position s.content t

-- the answer at the end of the tokens
abbrev pub ended : Content → What → Result Content Why
ended c What.End = Ok c
ended c expected = Err (Why.Expected expected)

abbrev pub finish : State → Result Content Why
finish s = ended s.content (due_at s.position)

-- ---- the whole

-- the answer to the tokens to come
abbrev pub run : State → List Token → Result Content Why
run = any_format.run step finish

abbrev pub start : State
start = at p.Format nothing
