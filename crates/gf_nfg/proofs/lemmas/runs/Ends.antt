-- Each state of the machine can be completed.
use Rattle.gf_nfg.proofs.Common
use Common.{false, true, with_choices, with_payoffs, with_labels, gcd_within, with_count, Position}
use Common.{with_title, lowest_of, number_of, count_of, index_of, Content, Closing, Opening, length}
use Common.{mul-one, Ratio, whole, State, Comma, Token, arith, codes, step, Bare, Text, run}
use Common.{IsSpelled, List, Some, refl, zero, pos, suc, ◌*◌, ◌+◌, ◌∷◌, ◌≡◌, at, Ok, [], p, ℕ}
use Rattle.gf_token.proofs.Offered.{AllSpelled}

-- it can be completed, to this many profiles, by tokens that can be spelled
pub record Ends (s : State) (profiles : ℕ) : Type 0 where
  pub more : List Token
  pub read : Content
  pub goes_on : run s more ≡ Ok read
  pub count : read.profiles ≡ profiles
  pub spelled : AllSpelled more

-- nothing more is due
no_more : {s : State} {n : ℕ} (read : Content) → run s [] ≡ Ok read → read.profiles ≡ n → Ends s n
no_more read e is = record { more = []; read = read; goes_on = e; count = is; spelled = tt }

-- by this token, and then as the state that it leads to
by : {s after : State} {n : ℕ} (t : Token) → IsSpelled t → step s t ≡ Ok after → Ends after n
    → Ends s n
by t h e k = record {
  more = t ∷ k.more;
  read = k.read;
  goes_on = rw e k.goes_on;
  count = k.count;
  spelled = (h, k.spelled);
}

-- with one strategy more
by_one : {s : State} (n : ℕ) → Ends s (n * 1) → Ends s n
by_one n k = grind (arith, mul-one)

abbrev pub zero_text : List ℕ
zero_text = codes "0"

abbrev pub zero_number : Ratio
zero_number = whole (pos 0)

pub zero_is_number : number_of zero_text ≡ Ok zero_number
unfolding number_of lowest_of gcd_within
zero_is_number = refl

pub zero_is_index : index_of zero_text ≡ Some 0
unfolding index_of
zero_is_index = refl

one_is_count : count_of (codes "1") ≡ Some 1
unfolding index_of
one_is_count = refl

-- ---- bodies

-- a payoff of zero was read
abbrev paid : Content → Content
paid c = with_payoffs c (zero_number ∷ [])

flat_ends : (left : ℕ) (c : Content) → Ends (at (p.FlatPayoffs left) c) c.profiles
flat_ends zero c = no_more c refl refl
flat_ends (suc left) c =
    by (Bare zero_text) (refl, tt) (rw zero_is_number refl) (flat_ends left (paid c))

numbers_ends : (outcomes left : ℕ) (c : Content)
    → Ends (at (p.OutcomeNumbers outcomes left) c) c.profiles
numbers_ends outcomes zero c = no_more c refl refl
numbers_ends outcomes (suc left) c =
    by (Bare zero_text) (refl, tt) (grind (arith, zero_is_index))
    (numbers_ends outcomes left (with_choices c (0 ∷ [])))

outcomes_ends : (outcomes : ℕ) (c : Content) → Ends (at (p.InOutcomes outcomes) c) c.profiles
outcomes_ends outcomes c = by Closing tt refl (numbers_ends outcomes c.profiles c)

braced_ends : (outcomes left : ℕ) (c : Content)
    → Ends (at (p.BracedPayoff false outcomes left) c) c.profiles
braced_ends outcomes zero c = by Closing tt refl (outcomes_ends (outcomes + 1) c)
braced_ends outcomes (suc left) c =
    by (Bare zero_text) (refl, tt) (rw zero_is_number refl)
    (by {s = at (p.BracedPayoff true outcomes left) (paid c)} Comma tt refl
    (braced_ends outcomes left (paid c)))

-- ---- strategies

body_ends : (left : ℕ) (c : Content) → Ends (at (p.AfterStrategies left) c) c.profiles
body_ends left c = by Opening tt refl (outcomes_ends 0 c)

counts_end : (left : ℕ) (c : Content) → Ends (at (p.Counts left) c) c.profiles
counts_end zero c = by Closing tt refl (body_ends _ c)
counts_end (suc left) c = by_one c.profiles
    (by (Bare (codes "1")) (refl, tt) (rw one_is_count refl) (counts_end left (with_count c 1)))

lists_end : (left : ℕ) (c : Content) → Ends (at (p.BeforeList left) c) c.profiles
lists_end zero c = by Closing tt refl (body_ends _ c)
lists_end (suc left) c = by_one c.profiles
    (by Opening tt refl (by (Text []) refl refl (by Closing tt refl
    (lists_end left (with_count (with_labels c ([] ∷ [])) 1)))))

first_ends : (left : ℕ) (c : Content) → Ends (at (p.FirstStrategies left) c) c.profiles
first_ends zero c = by Closing tt refl (body_ends _ c)
first_ends (suc left) c = by_one c.profiles
    (by (Bare (codes "1")) (refl, tt) (rw one_is_count refl) (counts_end left (with_count c 1)))

-- ---- the whole

players_end : (c : Content) → Ends (at p.InPlayers c) c.profiles
players_end c = by Closing tt refl (by Opening tt refl (first_ends (length c.players) c))

title_ends : (c : Content) → Ends (at p.Title c) c.profiles
title_ends c = by (Text []) refl refl (by Opening tt refl (players_end (with_title c [])))

letter_ends : (c : Content) → Ends (at p.Letter c) c.profiles
letter_ends c = by (Bare (codes "R")) (refl, tt) refl (title_ends c)

-- then there are this many profiles: an open list is closed, with one label at least
abbrev pub reached : Position → ℕ → ℕ
reached (p.InList left (suc n)) profiles = profiles * suc n
reached _ profiles = profiles

pub ends : (q : Position) (c : Content) → Ends (at q c) (reached q c.profiles)
ends p.Format c = by (Bare (codes "NFG")) (refl, (refl, (refl, tt))) refl
    (by (Bare (codes "1")) (refl, tt) refl (letter_ends c))
ends p.Version c = by (Bare (codes "1")) (refl, tt) refl (letter_ends c)
ends p.BeforePlayers c = by Opening tt refl (players_end c)
ends p.BeforeStrategies c = by Opening tt refl (first_ends (length c.players) c)
ends (p.InList left zero) c = by_one c.profiles
    (by (Text []) refl refl (by Closing tt refl
    (lists_end left (with_count (with_labels c ([] ∷ [])) 1))))
ends (p.InList left (suc n)) c = by Closing tt refl (lists_end left (with_count c (suc n)))
ends (p.AfterComment left) c = by Opening tt refl (outcomes_ends 0 c)
ends (p.OutcomeName outcomes) c = by (Text []) refl refl (braced_ends outcomes (length c.players) c)
ends (p.BracedPayoff true outcomes left) c = by Comma tt refl (braced_ends outcomes left c)
ends (p.BracedPayoff false outcomes left) c = braced_ends outcomes left c
ends (p.FlatPayoffs left) c = flat_ends left c
ends (p.InOutcomes outcomes) c = outcomes_ends outcomes c
ends (p.OutcomeNumbers outcomes left) c = numbers_ends outcomes left c
ends (p.AfterStrategies left) c = body_ends left c
ends q c = grind (arith, letter_ends, title_ends, players_end, first_ends, counts_end, lists_end)
