-- Each state that the machine of the reader comes to can be completed, by tokens that can be
-- spelled if those before can.
use Rattle.gf_tree.proofs.Common
use Common.{KnownOutcomeOpening, NewOutcomeOpening, KnownOutcomeName, KnownProbability, KnownAction}
use Common.{KnownSetOpening, written_is_read, InformationSet, NewOutcomeName, NewProbability, Begun}
use Common.{description_at, outcome_number, whole_fraction, BeforePlayers, NewSetOpening, InPlayers}
use Common.{OutcomeNumber, length-append, player_number, AfterPlayers, KnownSetName, PersonalName}
use Common.{PlayerNumber, TerminalName, new_set_ends, KnownPayoff, MatchOption, number_text, Action}
use Common.{with_action, ChanceName, IsFraction, NewSetName, past_label, set_number, IsSpelled, pos}
use Common.{NewAction, NewPayoff, SetNumber, set_known, with_node, Position, count_of, past_set, Ok}
use Common.{same_set, then_run, Closing, Content, NodeDue, Opening, Outcome, Version, Format, Ratio}
use Common.{Letter, Option, SetKey, finish, le-leb, length, nat_le, set_of, shared, State, Title, ℕ}
use Common.{Token, arith, begun, codes, false, whole, Bare, Bool, List, None, Some, Text, ints, suc}
use Common.{paid, refl, step, true, zero, ◌<◌, ◌∙◌, ◌∷◌, ◌≡◌, [], ap, at}
use Rattle.gf_fraction.specs.Offered.{number_of, lowest_of, gcd_within}
use Rattle.gf_token.specs.Offered.{index_of}
use Rattle.gf_token.proofs.Offered.{number_spelled, AllSpelled}
use Rattle.gf_tree.proofs.lemmas.runs.Tokens.{Reads, run_on, text_again}
use Rattle.gf_tree.proofs.lemmas.runs.Payoffs.{number_same}
use Rattle.gf_tree.proofs.lemmas.runs.Shares.{share_again}
use Rattle.gf_tree.proofs.lemmas.runs.Remainders.{IsShare, remainder}
use Rattle.gf_tree.proofs.lemmas.runs.Keeps.{Fine, FineActions, FinePayoffs}

pub zero_is_index : index_of (codes "0") ≡ Some 0
unfolding index_of
zero_is_index = refl

one_is_count : count_of (codes "1") ≡ Some 1
unfolding index_of
one_is_count = refl

zero_is_number : number_of (codes "0") ≡ Ok (whole (pos 0))
unfolding number_of lowest_of gcd_within
zero_is_number = refl

-- ---- nodes

abbrev terminal : Begun
terminal = record { name = []; set = None; children = 0 }

abbrev pub terminals : ℕ → List Token
terminals zero = []
terminals (suc n) = Bare (codes "t") ∷ Text [] ∷ Bare (codes "0") ∷ terminals n

terminals_spelled : (n : ℕ) → AllSpelled (terminals n)
terminals_spelled zero = tt
terminals_spelled (suc n) = ((refl, tt), (refl, ((refl, tt), terminals_spelled n)))

-- terminal nodes without an outcome complete it, and describe nothing
pub record Completed (q : Position) (c : Content) : Type 0 where
  pub count : ℕ
  pub end : Content
  pub reads : Reads q c (terminals count) end
  pub sets : end.sets ≡ c.sets
  pub outcomes : end.outcomes ≡ c.outcomes

pub none_due : (q : Position) (c : Content) → finish q c ≡ Ok c → Completed q c
none_due q c e = record { count = 0; end = c; reads = e; sets = refl; outcomes = refl }

pub by_node : (q : Position) (c : Content) → step q c (Bare (codes "t")) ≡ Ok (at TerminalName c)
    → Completed NodeDue (with_node c terminal None) → Completed q c
by_node q c e h = record {
  count = suc h.count;
  end = h.end;
  reads = grind (arith, run_on, zero_is_index);
  sets = h.sets;
  outcomes = h.outcomes;
}

pub nodes_end : (due : ℕ) (c : Content) → c.due ≡ due → Completed NodeDue c
nodes_end zero c is = none_due NodeDue c (rw is refl)
nodes_end (suc due) c is = by_node NodeDue c (rw is refl)
    (nodes_end due (with_node c terminal None) (omega (arith, is)))

pub after_players : (c : Content) → Completed AfterPlayers c
after_players c = by_node AfterPlayers c refl (nodes_end _ _ refl)

-- if it is given that the tokens before can be spelled
module _ (Given : Type 0) where
  -- it can be completed, by tokens that can be spelled
  abbrev pub Ends : Position → Content → Type 0
  Ends q c = (more : List Token) × (r : Content) × Reads q c more r × (Given → AllSpelled more)

  -- by a token that leads to a state that can be completed
  by : (q : Position) (c : Content) (t : Token) → (Given → IsSpelled t)
      → (s : State) → step q c t ≡ Ok s → Ends s.position s.content → Ends q c
  by q c t spelled s e h = (
    t ∷ h.0,
    h.1,
    ap (λ o. then_run o (run_on h.0)) e ∙ h.2,
    λ g. (spelled g, h.3 g),
  )

  -- by the text of a fraction
  by_number : (q : Position) (c : Content) (p : Ratio) → IsFraction p → (s : State)
      → step q c (Bare (number_text p)) ≡ Ok s → Ends s.position s.content → Ends q c
  by_number q c p is = by q c (Bare (number_text p)) (λ g. number_spelled p is)

  completes : {q : Position} {c : Content} → Completed q c → Ends q c
  completes h = (terminals h.count, h.end, h.reads, λ g. terminals_spelled h.count)

  node_ends : (c : Content) → Ends NodeDue c
  node_ends c = completes (nodes_end c.due c refl)

  outcome_ends : (b : Begun) (c : Content) → Ends (OutcomeNumber b) c
  outcome_ends b c = by (OutcomeNumber b) c (Bare (codes "0")) (λ g. (refl, tt))
      (at NodeDue (with_node c b None))
      (ap (outcome_number c b) zero_is_index) (node_ends (with_node c b None))

  -- ---- payoffs

  new_payoff_ends : (may : Bool) (left : ℕ) (b : Begun) (n : ℕ) (outcome : Outcome) (c : Content)
      → Ends (NewPayoff may b n outcome left) c
  new_payoff_ends may zero b n outcome c =
      by (NewPayoff may b n outcome zero) c Closing (λ g. tt) _ refl (node_ends _)
  new_payoff_ends may (suc left) b n outcome c =
      by (NewPayoff may b n outcome (suc left)) c (Bare (codes "0")) (λ g. (refl, tt)) _
      (ap (paid c b n outcome left) zero_is_number) (new_payoff_ends true left b n _ c)

  known_payoff_ends : (may : Bool) (ps : List Ratio) (c : Content) → FinePayoffs Given ps
      → Ends (KnownPayoff may ps) c
  known_payoff_ends may [] c h =
      by (KnownPayoff may []) c Closing (λ g. tt) (at NodeDue c) refl (node_ends c)
  known_payoff_ends may (p ∷ ps) c h =
      by_number (KnownPayoff may (p ∷ ps)) c p h.0 (at (KnownPayoff true ps) c)
      (number_same p (at (KnownPayoff true ps) c) (number_text p) (written_is_read p h.0))
      (known_payoff_ends true ps c h.1)

  new_outcome_ends : (b : Begun) (n : ℕ) (label : List ℕ) (c : Content)
      → Ends (NewOutcomeOpening b n label) c
  new_outcome_ends b n label c =
      by (NewOutcomeOpening b n label) c Opening (λ g. tt) _ refl
      (new_payoff_ends false (length c.players) b n _ c)

  -- ---- actions

  -- after an action, if the probabilities add up to one
  actions_end : (name : List ℕ) (key : SetKey) (set : InformationSet)
      (actions : List Action) (sum : Ratio) (c : Content) → set.actions ≡ actions → 0 < length actions
      → sum ≡ whole (pos 1) → Ends (NewAction name key set sum) c
  actions_end name key set [] sum c is some one = absurd (omega (arith, some))
  actions_end name key set (a ∷ actions) sum c is some one =
      let after = set_known c name key set in
      by (NewAction name key set sum) c Closing (λ g. tt) after (grind (arith, is))
      (outcome_ends (begun name key set) after.content)

  probability_ends : (name : List ℕ) (key : SetKey) (set : InformationSet) (sum : Ratio)
      (label : List ℕ) (c : Content) → IsShare sum → Ends (NewProbability name key set sum label) c
  probability_ends name key set sum label c share =
      let rest = remainder sum share in
      let read = share_again sum rest.rest (whole (pos 1)) (number_text rest.rest) share.fraction
      (written_is_read rest.rest rest.fraction) rest.low rest.adds (omega (arith, ints)) in
      let full = with_action set label (Some rest.rest) in
      by_number (NewProbability name key set sum label) c rest.rest rest.fraction
      (at (NewAction name key full (whole (pos 1))) c) (ap (shared c name key set label) read)
      (actions_end name key full full.actions (whole (pos 1)) c refl
      (grind (arith, length-append)) refl)

  -- a player's actions have no probabilities
  player_end : (name : List ℕ) (player n : ℕ) (set : InformationSet)
      (actions : List Action) (sum : Ratio) (c : Content) → set.actions ≡ actions → 0 < length actions
      → Ends (NewAction name (set_of (suc player) n) set sum) c
  player_end name player n set [] sum c is some = absurd (omega (arith, some))
  player_end name player n set (a ∷ actions) sum c is some =
      by (NewAction name (set_of (suc player) n) set sum) c Closing (λ g. tt) _
      (ap (λ x. new_set_ends c name (set_of (suc player) n) set x sum) is) (outcome_ends _ _)

  action_ends : (name : List ℕ) (player n : ℕ) (set : InformationSet) (sum : Ratio) (c : Content)
      → IsShare sum → Ends (NewAction name (set_of player n) set sum) c
  action_ends name zero n set sum c share =
      by (NewAction name (set_of 0 n) set sum) c (Text []) (λ g. refl)
      (at (NewProbability name (set_of 0 n) set sum []) c) refl
      (probability_ends name (set_of 0 n) set sum [] c share)
  action_ends name (suc player) n set sum c share =
      let more = with_action set [] None in
      by (NewAction name (set_of (suc player) n) set sum) c (Text []) (λ g. refl)
      (at (NewAction name (set_of (suc player) n) more sum) c) refl
      (player_end name player n more more.actions sum c refl (grind (arith, length-append)))

  new_set_end : (name : List ℕ) (key : SetKey) (label : List ℕ) (c : Content)
      → Ends (NewSetOpening name key label) c
  new_set_end name key label c = by (NewSetOpening name key label) c Opening (λ g. tt) _ refl
      (action_ends name key.player key.number _ (whole (pos 0)) c (grind (arith, whole_fraction)))

  known_actions_end : (actions : List Action) (b : Begun) (c : Content) → FineActions Given actions
      → Ends (KnownAction b actions) c
  known_actions_end [] b c h =
      by (KnownAction b []) c Closing (λ g. tt) (at (OutcomeNumber b) c) refl (outcome_ends b c)
  known_actions_end (a ∷ actions) b c h =
      by (KnownAction b (a ∷ actions)) c (Text a.label) h.0.0
      (at (past_label b a.probability actions) c)
      (text_again a.label (at (past_label b a.probability actions) c))
      (behind a.probability h.0.1 (known_actions_end actions b c h.1))
    where
      behind : (o : Option Ratio) → MatchOption o (Unit {0}) IsFraction
          → Ends (KnownAction b actions) c → Ends (past_label b o actions) c
      behind None is later = later
      behind (Some p) is later =
          by_number (KnownProbability b p actions) c p is (at (KnownAction b actions) c)
          (number_same p (at (KnownAction b actions) c) (number_text p) (written_is_read p is)) later

  known_probability_ends : (b : Begun) (p : Ratio) (actions : List Action) (c : Content)
      → IsFraction p → FineActions Given actions → Ends (KnownProbability b p actions) c
  known_probability_ends b p actions c is h =
      by_number (KnownProbability b p actions) c p is (at (KnownAction b actions) c)
      (number_same p (at (KnownAction b actions) c) (number_text p) (written_is_read p is))
      (known_actions_end actions b c h)

  -- ---- sets

  known_set_ends : (name : List ℕ) (key : SetKey) (set : InformationSet) (c : Content)
      → Ends (KnownSetName name key set) c
  known_set_ends name key set c =
      by (KnownSetName name key set) c (Bare (codes "0")) (λ g. (refl, tt))
      (at NodeDue (with_node c (begun name key set) None))
      (ap (outcome_number c (begun name key set)) zero_is_index) (node_ends _)

  new_name_ends : (name : List ℕ) (key : SetKey) (c : Content) → Ends (NewSetName name key) c
  new_name_ends name key c =
      by (NewSetName name key) c (Text []) (λ g. refl) (at (NewSetOpening name key []) c)
      refl (new_set_end name key [] c)

  past_ends : (name : List ℕ) (key : SetKey) (o : Option InformationSet) (c : Content)
      → Ends (past_set name key o) c
  past_ends name key None c = new_name_ends name key c
  past_ends name key (Some set) c = known_set_ends name key set c

  set_number_ends : (name : List ℕ) (player : ℕ) (c : Content) → Ends (SetNumber name player) c
  set_number_ends name player c =
      by (SetNumber name player) c (Bare (codes "1")) (λ g. (refl, tt))
      (at (past_set name (set_of player 1) (description_at same_set c.sets (set_of player 1))) c)
      (ap (set_number c name player) one_is_count)
      (past_ends name (set_of player 1) (description_at same_set c.sets (set_of player 1)) c)

  player_ends : (name : List ℕ) (c : Content) → 0 < length c.players → Ends (PlayerNumber name) c
  player_ends name c some =
      let within : nat_le 1 (length c.players) ≡ true =
      le-leb 1 (length c.players) (omega (arith, some)) in
      let first : player_number c name (Some 1) ≡ Ok (at (SetNumber name 1) c) = cc within in
      by (PlayerNumber name) c (Bare (codes "1")) (λ g. (refl, tt)) (at (SetNumber name 1) c)
      (ap (player_number c name) one_is_count ∙ first) (set_number_ends name 1 c)

  -- ---- headings

  title_ends : (c : Content) → Ends Title c
  title_ends c =
      let k = node_ends (record c { title = []; comment = [] }) in (
        Text [] ∷ Opening ∷ Closing ∷ Text [] ∷ k.0,
        k.1,
        k.2,
        λ g. (refl, (tt, (tt, (refl, k.3 g)))),
      )

  pub ends : (q : Position) (c : Content) → Fine Given q c → Ends q c
  ends Format c h =
      let k = title_ends c in (
        Bare (codes "EFG") ∷ Bare (codes "2") ∷ Bare (codes "R") ∷ k.0,
        k.1,
        k.2,
        λ g. ((refl, (refl, (refl, tt))), ((refl, tt), ((refl, tt), k.3 g))),
      )
  ends Version c h =
      let k = title_ends c in (
        Bare (codes "2") ∷ Bare (codes "R") ∷ k.0,
        k.1,
        k.2,
        λ g. ((refl, tt), ((refl, tt), k.3 g)),
      )
  ends Letter c h =
      let k = title_ends c in
      (Bare (codes "R") ∷ k.0, k.1, k.2, λ g. ((refl, tt), k.3 g))
  ends Title c h = title_ends c
  ends BeforePlayers c h =
      let k = completes (after_players c) in
      (Opening ∷ Closing ∷ k.0, k.1, k.2, λ g. (tt, (tt, k.3 g)))
  ends InPlayers c h =
      let k = completes (after_players c) in
      (Closing ∷ k.0, k.1, k.2, λ g. (tt, k.3 g))
  ends AfterPlayers c h = completes (after_players c)
  ends NodeDue c h = node_ends c
  ends ChanceName c h =
      by ChanceName c (Text []) (λ g. refl) (at (SetNumber [] 0) c) refl (set_number_ends [] 0 c)
  ends PersonalName c h =
      by PersonalName c (Text []) (λ g. refl) (at (PlayerNumber []) c) refl (player_ends [] c h.0)
  ends TerminalName c h =
      by TerminalName c (Text []) (λ g. refl) (at (OutcomeNumber terminal) c) refl
      (outcome_ends terminal c)
  ends (PlayerNumber name) c h = player_ends name c h.0
  ends (SetNumber name player) c h = set_number_ends name player c
  ends (NewSetName name key) c h = new_name_ends name key c
  ends (NewSetOpening name key label) c h = new_set_end name key label c
  ends (NewAction name key set sum) c h = action_ends name key.player key.number set sum c h.0.0
  ends (NewProbability name key set sum label) c h = probability_ends name key set sum label c h.0.0
  ends (KnownSetName name key set) c h = known_set_ends name key set c
  ends (KnownSetOpening b actions) c h = by (KnownSetOpening b actions) c Opening (λ g. tt)
      (at (KnownAction b actions) c) refl (known_actions_end actions b c h.0)
  ends (KnownAction b actions) c h = known_actions_end actions b c h.0
  ends (KnownProbability b p actions) c h = known_probability_ends b p actions c h.0.0 h.0.1
  ends (OutcomeNumber b) c h = outcome_ends b c
  ends (NewOutcomeName b n) c h = by (NewOutcomeName b n) c (Text []) (λ g. refl)
      (at (NewOutcomeOpening b n []) c) refl (new_outcome_ends b n [] c)
  ends (NewOutcomeOpening b n label) c h = new_outcome_ends b n label c
  ends (NewPayoff may b n outcome left) c h = new_payoff_ends may left b n outcome c
  ends (KnownOutcomeName outcome) c h = completes (grind (arith, none_due, by_node, nodes_end))
  ends (KnownOutcomeOpening ps) c h = by (KnownOutcomeOpening ps) c Opening (λ g. tt)
      (at (KnownPayoff false ps) c) refl (known_payoff_ends false ps c h.0)
  ends (KnownPayoff may ps) c h = known_payoff_ends may ps c h.0
