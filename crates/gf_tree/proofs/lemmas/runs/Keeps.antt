-- What holds wherever the machine goes on: numbers that it knows are fractions, a sum of
-- probabilities is at most one, and if a player moves, there is such a player. The labels of
-- actions that it knows can be spelled, if the tokens can.
use Rattle.gf_tree.proofs.Common
use Common.{KnownOutcomeOpening, KnownOutcomeName, KnownProbability, KnownSetOpening, KnownSetName}
use Common.{AllByRecursion, InformationSet, NewProbability, description_at, whole_fraction, Closing}
use Common.{PersonalName, PlayerNumber, past_outcome, Decides-eqb, KnownAction, KnownPayoff, Action}
use Common.{MatchOption, NumberFault, IsFraction, Described, IsSpelled, NewAction, NewPayoff, Begun}
use Common.{number_is, Position, past_set, same_set, share_of, Content, IsLabel, Outcome, Option, ℕ}
use Common.{Result, SetKey, length, nat_eq, shared, Ratio, Share, State, Token, arith, Bare, List}
use Common.{None, Some, Text, paid, refl, step, ◌++◌, Err, Why, suc, ◌<◌, ◌∷◌, ◌≡◌, Ok, []}
use Rattle.gf_fraction.specs.Offered.{number_of}
use Rattle.gf_tree.proofs.lemmas.games.TreesOnce.{same_set_equality}
use Rattle.gf_tree.proofs.lemmas.games.Members.{all_more}
use Rattle.gf_tree.proofs.lemmas.runs.Learned.{found_has, one}
use Rattle.gf_tree.proofs.lemmas.runs.Shares.{share_found}
use Rattle.gf_tree.proofs.lemmas.runs.Remainders.{IsShare, sum_low}

-- if it is given that the tokens can be spelled
module _ (Given : Type 0) where
  -- an action's label can be spelled, and its probability is a fraction
  abbrev pub IsFineAction : Action → Type 0
  IsFineAction a = (Given → IsLabel a.label) × MatchOption a.probability (Unit {0}) IsFraction

  abbrev pub FineActions : List Action → Type 0
  FineActions actions = AllByRecursion IsFineAction actions

  abbrev pub FinePayoffs : List Ratio → Type 0
  FinePayoffs ps = AllByRecursion IsFraction ps

  -- if there are this many players
  abbrev pub FineAt : ℕ → Position → Type 0
  FineAt players PersonalName = 0 < players
  FineAt players (PlayerNumber name) = 0 < players
  FineAt players (NewAction name key set sum) = IsShare sum × FineActions set.actions
  FineAt players (NewProbability name key set sum label) =
      IsShare sum × FineActions set.actions × (Given → IsLabel label)
  FineAt players (KnownSetName name key set) = FineActions set.actions
  FineAt players (KnownSetOpening b actions) = FineActions actions
  FineAt players (KnownAction b actions) = FineActions actions
  FineAt players (KnownProbability b p actions) = IsFraction p × FineActions actions
  FineAt players (NewPayoff may b n outcome left) = FinePayoffs outcome.payoffs
  FineAt players (KnownOutcomeName outcome) = FinePayoffs outcome.payoffs
  FineAt players (KnownOutcomeOpening ps) = FinePayoffs ps
  FineAt players (KnownPayoff may ps) = FinePayoffs ps
  FineAt players _ = Unit {0}

  abbrev FineSets : List (Described SetKey InformationSet) → Type 0
  FineSets sets = AllByRecursion (λ s. FineActions s.description.actions) sets

  abbrev FineOutcomes : List (Described ℕ Outcome) → Type 0
  FineOutcomes outcomes = AllByRecursion (λ o. FinePayoffs o.description.payoffs) outcomes

  abbrev pub Fine : Position → Content → Type 0
  Fine q c = FineAt (length c.players) q × FineSets c.sets × FineOutcomes c.outcomes

  abbrev pub LeadsFine : Result State Why → Type 0
  LeadsFine (Ok s) = Fine s.position s.content
  LeadsFine (Err why) = Unit {0}

  module _ (c : Content) (sets : FineSets c.sets) (outcomes : FineOutcomes c.outcomes) where
    past_set_keeps : (name : List ℕ) (key : SetKey) (o : Option InformationSet)
        → description_at same_set c.sets key ≡ o → Fine (past_set name key o) c
    past_set_keeps name key None e = (tt, sets, outcomes)
    past_set_keeps name key (Some set) e = (
      found_has same_set same_set_equality (λ k s. FineActions s.actions) c.sets key set sets e,
      sets,
      outcomes,
    )

    known_keeps : (key : SetKey) (set : InformationSet) → FineActions set.actions
        → FineSets (c.sets ++ one key set ∷ [])
    known_keeps key set fine =
        all_more (λ s. FineActions s.description.actions) c.sets (one key set) sets fine

    shared_keeps : (name : List ℕ) (key : SetKey) (set : InformationSet) (sum : Ratio)
        (label b : List ℕ) (o : Result Share Why) → IsShare sum → FineActions set.actions
        → (Given → IsLabel label) → share_of sum b ≡ o → LeadsFine (shared c name key set label o)
    shared_keeps name key set sum label b (Err why) share fine spelled e = tt
    shared_keeps name key set sum label b (Ok s) share fine spelled e =
        let h = share_found sum b s share.fraction e in
        let number = h.number.fraction in
        let low = sum_low sum s.probability s.sum share.fraction.den_above_zero number.den_above_zero
        share.low h.not_below h.adds.2 in (
          (
            record { fraction = h.adds.1; low = low; high = h.not_above },
            all_more IsFineAction set.actions
                (record { label = label; probability = Some s.probability }) fine (spelled, number),
          ),
          sets,
          outcomes,
        )

    past_outcome_keeps : (b : Begun) (n : ℕ) (o : Option Outcome)
        → description_at nat_eq c.outcomes n ≡ o
        → Fine (past_outcome c b n o).position (past_outcome c b n o).content
    past_outcome_keeps b n None e = (tt, sets, outcomes)
    past_outcome_keeps b n (Some outcome) e = (
      found_has nat_eq Decides-eqb (λ k o. FinePayoffs o.payoffs) c.outcomes n outcome outcomes e,
      sets,
      outcomes,
    )

    paid_keeps : (b : Begun) (n : ℕ) (outcome : Outcome)
        (left : ℕ) (t : List ℕ) (o : Result Ratio NumberFault)
        → FinePayoffs outcome.payoffs → number_of t ≡ o → LeadsFine (paid c b n outcome left o)
    paid_keeps b n outcome left t (Err fault) fine e = tt
    paid_keeps b n outcome left t (Ok p) fine e =
        (all_more IsFraction outcome.payoffs p fine (number_is t p e).fraction, sets, outcomes)

    outcome_known : (n : ℕ) (outcome : Outcome) → FinePayoffs outcome.payoffs
        → FineOutcomes (c.outcomes ++ one n outcome ∷ [])
    outcome_known n outcome fine =
        all_more (λ o. FinePayoffs o.description.payoffs) c.outcomes (one n outcome) outcomes fine

  -- ---- each step keeps it

  pub keeps : (q : Position) (c : Content) (t : Token) → (Given → IsSpelled t) → Fine q c
      → LeadsFine (step q c t)
  keeps (NewAction name key set sum) c (Text l) h f =
      (grind (arith, all_more))
  keeps (NewAction name key set sum) c Closing h f =
      (grind (arith, known_keeps))
  keeps (NewProbability name key set sum label) c (Bare b) h f =
      shared_keeps c f.1 f.2 name key set sum label b (share_of sum b) f.0.0 f.0.1 f.0.2 refl
  keeps (NewPayoff may b n outcome (suc left)) c (Bare t) h f =
      paid_keeps c f.1 f.2 b n outcome left t (number_of t) f.0 refl
  keeps q c t h f = grind (arith, whole_fraction, past_set_keeps, past_outcome_keeps, outcome_known)
