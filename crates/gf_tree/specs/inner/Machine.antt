-- The reader of extensive files as a machine: one token at a time. Sentence and Consistent say what
-- it means; no public contract cites this file.
use Rattle.std.specs.Prelude.{ℕ, zero, suc, ◌+◌, ◌-◌, ◌==◌, ◌||◌, ◌&&◌, Bool, true, false, List, []}
use Rattle.std.specs.Prelude.{◌∷◌, ◌++◌, length, codes, Option, Some, None, Result, Ok, Err, nat_eq}
use Rattle.std.specs.Prelude.{nat_le, pos, if◌then◌else◌}
use Rattle.std.specs.Cmp.Lexicographic.{pointwise}
use Rattle.gf_fraction.specs.Ratio.{Ratio, whole}
use Rattle.gf_fraction.specs.Offered.{number_of}
use Rattle.gf_fraction.specs.declared.fraction.NumberFault.{NumberFault}
use Rattle.gf_token.specs.Token.{Token, Lexeme}
use Rattle.gf_token.specs.Next.{is_broken, is_opening, is_closing, is_comma, is_text_token}
use Rattle.gf_token.specs.Next.{is_bare_token}
use Rattle.gf_token.specs.NumberWhy.{why_of}
use Rattle.gf_token.specs.Offered.{count_of, index_of, read_on}
use Rattle.gf_token.specs.declared.fault.Fault.{Fault}
use Rattle.gf_token.specs.Token.Token.{Opening, Closing, Comma, Text, Bare}
use Rattle.gf_token.specs.declared.fault.Why.{Why}
use Rattle.gf_token.specs.declared.fault.Why.TheVariants.{SumBelowOne, NoEntry, Expected}
use Rattle.gf_token.specs.declared.fault.Why.TheVariants.{Unterminated, BadIndex, UnknownPlayer}
use Rattle.gf_token.specs.declared.fault.Why.TheVariants.{NotDescribed, Mismatch}
use Rattle.gf_tree.specs.Description.{Action, InformationSet, Outcome, SetKey, same_set, set_of}
use Rattle.gf_tree.specs.FiniteMap.{Described, description_at}
use Rattle.gf_tree.specs.Game.{Node}
use Rattle.gf_tree.specs.PrefixOrder.{Listed}
use Rattle.gf_tree.specs.inner.Probability.{Share, is_one, same_ratio, share_of}
use Rattle.gf_token.specs.declared.fault.What.TheVariants as what

-- What was read: the heading; the nodes in prefix order, and how many are still due; the sets and
-- the outcomes that are known, in order of first use.
pub record Content : Type 0 where
  pub title : List ℕ
  pub comment : List ℕ
  pub players : List (List ℕ)
  pub nodes : List (Listed Node)
  pub due : ℕ
  pub sets : List (Described SetKey InformationSet)
  pub outcomes : List (Described ℕ Outcome)

-- a node whose outcome is still to come: its name, its set, and how many children it has
pub record Begun : Type 0 where
  pub name : List ℕ
  pub set : Option SetKey
  pub children : ℕ

-- What is due, with all that is known about it.
pub data Position : Type 0 where
  Format : Position
  Version : Position
  Letter : Position
  Title : Position
  BeforePlayers : Position
  InPlayers : Position
  -- the comment, or the first node
  AfterPlayers : Position
  -- the letter of a node; after the last node, the end
  NodeDue : Position
  ChanceName : Position
  PersonalName : Position
  TerminalName : Position
  -- for a node with this name
  PlayerNumber : List ℕ → Position
  -- for this player
  SetNumber : List ℕ → ℕ → Position
  NewSetName : List ℕ → SetKey → Position
  NewSetOpening : List ℕ → SetKey → List ℕ → Position
  -- an action, or the closing brace, after these actions and this sum of probabilities
  NewAction : List ℕ → SetKey → InformationSet → Ratio → Position
  -- for the action with this label
  NewProbability : List ℕ → SetKey → InformationSet → Ratio → List ℕ → Position
  -- the name of a known set, or the number of the outcome
  KnownSetName : List ℕ → SetKey → InformationSet → Position
  -- these actions are left
  KnownSetOpening : Begun → List Action → Position
  KnownAction : Begun → List Action → Position
  KnownProbability : Begun → Ratio → List Action → Position
  OutcomeNumber : Begun → Position
  NewOutcomeName : Begun → ℕ → Position
  NewOutcomeOpening : Begun → ℕ → List ℕ → Position
  -- a payoff, after these, with this many left; after the last, the closing brace; and whether a
  -- comma may come before it
  NewPayoff : Bool → Begun → ℕ → Outcome → ℕ → Position
  -- the name of a known outcome, or what follows the node
  KnownOutcomeName : Outcome → Position
  -- these payoffs are left
  KnownOutcomeOpening : List Ratio → Position
  KnownPayoff : Bool → List Ratio → Position

pub record State : Type 0 where
  pub position : Position
  pub content : Content

abbrev pub at : Position → Content → State
at q c = record { position = q; content = c }

abbrev pub nothing : Content
nothing =
    record { title = []; comment = []; players = []; nodes = []; due = 1; sets = []; outcomes = [] }

-- ---- what a position looks at

-- a payoff in braces, if so many are left
abbrev pub is_payoff_or_end : ℕ → Token → Bool
is_payoff_or_end zero t = is_closing t
is_payoff_or_end (suc left) t = is_bare_token t

-- which tokens it looks into; any other is refused, and the refusal names what is due
abbrev pub looks_at : Position → Token → Bool
looks_at BeforePlayers t = is_opening t
looks_at (NewSetOpening _ _ _) t = is_opening t
looks_at (KnownSetOpening _ _) t = is_opening t
looks_at (NewOutcomeOpening _ _ _) t = is_opening t
looks_at (KnownOutcomeOpening _) t = is_opening t
looks_at Title t = is_text_token t
looks_at ChanceName t = is_text_token t
looks_at PersonalName t = is_text_token t
looks_at TerminalName t = is_text_token t
looks_at (NewSetName _ _) t = is_text_token t
looks_at (NewOutcomeName _ _) t = is_text_token t
looks_at InPlayers t = is_text_token t || is_closing t
looks_at (NewAction _ _ _ _) t = is_text_token t || is_closing t
looks_at (KnownAction _ _) t = is_text_token t || is_closing t
looks_at AfterPlayers t = is_text_token t || is_bare_token t
looks_at (KnownSetName _ _ _) t = is_text_token t || is_bare_token t
looks_at (KnownOutcomeName _) t = is_text_token t || is_bare_token t
looks_at (NewPayoff may _ _ _ left) t = (is_comma t && may) || is_payoff_or_end left t
looks_at (KnownPayoff may left) t = (is_comma t && may) || is_payoff_or_end (length left) t
looks_at _ t = is_bare_token t

-- what is due if a node or the end is
abbrev pub node_or_end : ℕ → Why
node_or_end zero = Expected what.End
node_or_end (suc due) = Expected what.Node

-- why any other token is refused, if this many nodes are due
abbrev pub due : Position → ℕ → Why
due Format n = Expected what.Format
due Version n = Expected what.Version
due Letter n = Expected what.Letter
due Title n = Expected what.Text
due BeforePlayers n = Expected what.Opening
due InPlayers n = Expected what.Text
due AfterPlayers n = Expected what.Node
due NodeDue n = node_or_end n
due ChanceName n = Expected what.Text
due PersonalName n = Expected what.Text
due TerminalName n = Expected what.Text
due (PlayerNumber _) n = Expected what.Index
due (SetNumber _ _) n = Expected what.Index
due (NewSetName _ _) n = NotDescribed
due (NewSetOpening _ _ _) n = Expected what.Opening
due (NewAction _ _ _ _) n = Expected what.Text
due (NewProbability _ _ _ _ _) n = Expected what.Number
due (KnownSetName _ _ _) n = Expected what.Index
due (KnownSetOpening _ _) n = Expected what.Opening
due (KnownAction _ []) n = Expected what.Closing
due (KnownAction _ (_ ∷ _)) n = Expected what.Text
due (KnownProbability _ _ _) n = Expected what.Number
due (OutcomeNumber _) n = Expected what.Index
due (NewOutcomeName _ _) n = NotDescribed
due (NewOutcomeOpening _ _ _) n = Expected what.Opening
due (NewPayoff _ _ _ _ zero) n = Expected what.Closing
due (NewPayoff _ _ _ _ (suc left)) n = Expected what.Number
due (KnownOutcomeName _) n = node_or_end n
due (KnownOutcomeOpening _) n = Expected what.Opening
due (KnownPayoff _ []) n = Expected what.Closing
due (KnownPayoff _ (_ ∷ _)) n = Expected what.Number

-- whether the file may end there, if this many nodes are due
abbrev pub may_end : Position → ℕ → Bool
may_end NodeDue n = n == 0
may_end (KnownOutcomeName _) n = n == 0
may_end _ n = false

-- ---- what a token leads to

abbrev pub with_player : Content → List ℕ → Content
with_player c label = record c { players = c.players ++ label ∷ [] }

abbrev pub with_set : Content → SetKey → InformationSet → Content
with_set c key set = record c { sets = c.sets ++ record { key = key; description = set } ∷ [] }

abbrev pub with_outcome : Content → ℕ → Outcome → Content
with_outcome c n outcome =
    record c { outcomes = c.outcomes ++ record { key = n; description = outcome } ∷ [] }

-- the node is whole, with this outcome or none; its children are due
abbrev pub with_node : Content → Begun → Option ℕ → Content
with_node c b outcome = record c {
  nodes = c.nodes ++ record {
    node = record { name = b.name; set = b.set; outcome = outcome };
    children = b.children;
  } ∷ [];
  due = b.children + (c.due - 1);
}

-- a bare token that has to be this word
abbrev pub word : List ℕ → List ℕ → State → Why → Result State Why
word wanted found s why = if pointwise nat_eq found wanted then Ok s else Err why

-- a text that has to be this one
abbrev pub same_text : List ℕ → List ℕ → State → Result State Why
same_text wanted found s = if pointwise nat_eq found wanted then Ok s else Err Mismatch

-- a number that has to have this value
abbrev pub same_number : Ratio → State → Result Ratio NumberFault → Result State Why
same_number wanted s (Err fault) = Err (why_of fault)
same_number wanted s (Ok found) = if same_ratio found wanted then Ok s else Err Mismatch

-- a player moves, if there are players
abbrev pub personal_node : Content → List (List ℕ) → Result State Why
personal_node c [] = Err UnknownPlayer
personal_node c (player ∷ players) = Ok (at PersonalName c)

-- the letter of a node, if one is due
abbrev pub node_letter : Content → List ℕ → Result State Why
node_letter c b =
    if pointwise nat_eq b (codes "c") then Ok (at ChanceName c)
    else if pointwise nat_eq b (codes "p") then personal_node c c.players
    else if pointwise nat_eq b (codes "t") then Ok (at TerminalName c)
    else Err (Expected what.Node)

-- the letter of a node, or the end
abbrev pub after_node : Content → ℕ → List ℕ → Result State Why
after_node c zero b = Err (Expected what.End)
after_node c (suc due) b = node_letter c b

abbrev pub player_number : Content → List ℕ → Option ℕ → Result State Why
player_number c name None = Err BadIndex
player_number c name (Some n) =
    if nat_le n (length c.players) then Ok (at (SetNumber name n) c) else Err UnknownPlayer

abbrev pub begun : List ℕ → SetKey → InformationSet → Begun
begun name key set = record { name = name; set = Some key; children = length set.actions }

-- after the number of a set
abbrev pub past_set : List ℕ → SetKey → Option InformationSet → Position
past_set name key None = NewSetName name key
past_set name key (Some set) = KnownSetName name key set

abbrev pub set_number : Content → List ℕ → ℕ → Option ℕ → Result State Why
set_number c name player None = Err BadIndex
set_number c name player (Some n) =
    Ok (at (past_set name (set_of player n) (description_at same_set c.sets (set_of player n))) c)

abbrev pub with_action : InformationSet → List ℕ → Option Ratio → InformationSet
with_action set label p =
    record set { actions = set.actions ++ record { label = label; probability = p } ∷ [] }

-- an action's label, followed by a probability if chance moves
abbrev pub new_label : Content → List ℕ → ℕ → ℕ → InformationSet → Ratio → List ℕ → State
new_label c name zero n set sum label = at (NewProbability name (set_of zero n) set sum label) c
new_label c name (suc player) n set sum label =
    at (NewAction name (set_of (suc player) n) (with_action set label None) sum) c

abbrev pub shared : Content → List ℕ → SetKey → InformationSet → List ℕ → Result Share Why
    → Result State Why
shared c name key set label (Err why) = Err why
shared c name key set label (Ok share) =
    Ok (at (NewAction name key (with_action set label (Some share.probability)) share.sum) c)

abbrev pub set_known : Content → List ℕ → SetKey → InformationSet → State
set_known c name key set = at (OutcomeNumber (begun name key set)) (with_set c key set)

-- the closing brace of a list of actions, whose probabilities add up to one if chance moves
abbrev pub set_ends : Content → List ℕ → ℕ → ℕ → InformationSet → Ratio → Result State Why
set_ends c name zero n set sum =
    if is_one sum then Ok (set_known c name (set_of zero n) set) else Err SumBelowOne
set_ends c name (suc player) n set sum = Ok (set_known c name (set_of (suc player) n) set)

abbrev pub new_set_ends : Content → List ℕ → SetKey → InformationSet → List Action → Ratio
    → Result State Why
new_set_ends c name key set [] sum = Err NoEntry
new_set_ends c name key set (action ∷ actions) sum = set_ends c name key.player key.number set sum

-- after the label of a known action
abbrev pub past_label : Begun → Option Ratio → List Action → Position
past_label b None actions = KnownAction b actions
past_label b (Some p) actions = KnownProbability b p actions

-- after the number of an outcome
abbrev pub past_outcome : Content → Begun → ℕ → Option Outcome → State
past_outcome c b n None = at (NewOutcomeName b n) c
past_outcome c b n (Some outcome) = at (KnownOutcomeName outcome) (with_node c b (Some n))

abbrev pub outcome_number : Content → Begun → Option ℕ → Result State Why
outcome_number c b None = Err BadIndex
outcome_number c b (Some zero) = Ok (at NodeDue (with_node c b None))
outcome_number c b (Some (suc k)) =
    Ok (past_outcome c b (suc k) (description_at nat_eq c.outcomes (suc k)))

abbrev pub with_payoff : Outcome → Ratio → Outcome
with_payoff outcome p = record outcome { payoffs = outcome.payoffs ++ p ∷ [] }

abbrev pub paid : Content → Begun → ℕ → Outcome → ℕ → Result Ratio NumberFault → Result State Why
paid c b n outcome due (Err fault) = Err (why_of fault)
paid c b n outcome due (Ok p) = Ok (at (NewPayoff true b n (with_payoff outcome p) due) c)

abbrev pub outcome_ends : Content → Begun → ℕ → Outcome → State
outcome_ends c b n outcome = at NodeDue (with_node (with_outcome c n outcome) b (Some n))

-- what a token that the position looks into leads to
abbrev pub taken : Position → Content → Token → Result State Why
taken Format c (Bare b) = word (codes "EFG") b (at Version c) (Expected what.Format)
taken Version c (Bare b) = word (codes "2") b (at Letter c) (Expected what.Version)
taken Letter c (Bare b) =
    if pointwise nat_eq b (codes "R") || pointwise nat_eq b (codes "D") then Ok (at Title c)
    else Err (Expected what.Letter)
taken Title c (Text label) = Ok (at BeforePlayers (record c { title = label }))
taken BeforePlayers c Opening = Ok (at InPlayers c)
taken InPlayers c (Text label) = Ok (at InPlayers (with_player c label))
taken InPlayers c Closing = Ok (at AfterPlayers c)
taken AfterPlayers c (Text label) = Ok (at NodeDue (record c { comment = label }))
taken AfterPlayers c (Bare b) = node_letter c b
taken NodeDue c (Bare b) = after_node c c.due b
taken ChanceName c (Text name) = Ok (at (SetNumber name 0) c)
taken PersonalName c (Text name) = Ok (at (PlayerNumber name) c)
taken TerminalName c (Text name) =
    Ok (at (OutcomeNumber (record { name = name; set = None; children = 0 })) c)
taken (PlayerNumber name) c (Bare b) = player_number c name (count_of b)
taken (SetNumber name player) c (Bare b) = set_number c name player (count_of b)
taken (NewSetName name key) c (Text label) = Ok (at (NewSetOpening name key label) c)
taken (NewSetOpening name key label) c Opening =
    Ok (at (NewAction name key (record { name = label; actions = [] }) (whole (pos 0))) c)
taken (NewAction name key set sum) c (Text label) =
    Ok (new_label c name key.player key.number set sum label)
taken (NewAction name key set sum) c Closing = new_set_ends c name key set set.actions sum
taken (NewProbability name key set sum label) c (Bare b) =
    shared c name key set label (share_of sum b)
taken (KnownSetName name key set) c (Text label) =
    same_text set.name label (at (KnownSetOpening (begun name key set) set.actions) c)
taken (KnownSetName name key set) c (Bare b) = outcome_number c (begun name key set) (index_of b)
taken (KnownSetOpening b actions) c Opening = Ok (at (KnownAction b actions) c)
taken (KnownAction b []) c (Text label) = Err Mismatch
taken (KnownAction b []) c Closing = Ok (at (OutcomeNumber b) c)
taken (KnownAction b (a ∷ others)) c (Text label) =
    same_text a.label label (at (past_label b a.probability others) c)
taken (KnownAction b (a ∷ others)) c Closing = Err Mismatch
taken (KnownProbability b p others) c (Bare t) =
    same_number p (at (KnownAction b others) c) (number_of t)
taken (OutcomeNumber b) c (Bare t) = outcome_number c b (index_of t)
taken (NewOutcomeName b n) c (Text label) = Ok (at (NewOutcomeOpening b n label) c)
taken (NewOutcomeOpening b n label) c Opening =
    Ok (at (NewPayoff false b n (record { name = label; payoffs = [] }) (length c.players)) c)
taken (NewPayoff may b n outcome left) c Comma = Ok (at (NewPayoff false b n outcome left) c)
taken (NewPayoff may b n outcome zero) c Closing = Ok (outcome_ends c b n outcome)
taken (NewPayoff may b n outcome (suc left)) c (Bare t) = paid c b n outcome left (number_of t)
taken (KnownOutcomeName outcome) c (Text label) =
    same_text outcome.name label (at (KnownOutcomeOpening outcome.payoffs) c)
taken (KnownOutcomeName outcome) c (Bare b) = after_node c c.due b
taken (KnownOutcomeOpening payoffs) c Opening = Ok (at (KnownPayoff false payoffs) c)
taken (KnownPayoff may ps) c Comma = Ok (at (KnownPayoff false ps) c)
taken (KnownPayoff may []) c Closing = Ok (at NodeDue c)
taken (KnownPayoff may (p ∷ ps)) c (Bare t) =
    same_number p (at (KnownPayoff true ps) c) (number_of t)
taken q c t = Err (due q c.due)

abbrev pub step : Position → Content → Token → Result State Why
step q c t =
    if is_broken t then Err Unterminated
    else if looks_at q t then taken q c t
    else Err (due q c.due)

-- ---- the whole

-- the answer at the end of the tokens
abbrev pub finish : Position → Content → Result Content Why
finish q c = if may_end q c.due then Ok c else Err (due q c.due)

-- as a machine of any format
abbrev pub next : State → Token → Result State Why
next s t = step s.position s.content t

abbrev pub at_end : State → Result Content Why
at_end s = finish s.position s.content

-- the answer to the tokens to come, before the end of an input of this many bytes
abbrev pub run : ℕ → Position → Content → List Lexeme → Result Content Fault
run end q c ls = read_on next at_end end (at q c) ls
