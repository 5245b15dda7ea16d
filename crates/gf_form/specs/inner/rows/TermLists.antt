-- Terms of the sums that the players are paid, each with a number for each player.
use Rattle.std.specs.Prelude.{◌≡◌, ℕ, ℤ, pos, ◌+◌, ◌-◌, ◌*◌, ◌/◌, ◌<◌, ◌≤◌, ◌+ℤ◌, ◌*ℤ◌, true}
use Rattle.std.specs.Prelude.{List, [], ◌∷◌, ◌++◌, drop, get_or, length, take, if◌then◌else◌}
use Rattle.std.specs.Prelude.{suc, zero}
use Rattle.std.specs.Int.{◌∣◌}
use Rattle.std.specs.List.{AllByRecursion}
use Rattle.std.specs.List.Sorted.{IsNonDecreasing}
use Rattle.gf_form.specs.inner.rows.Demands.{meets}
use Rattle.gf_form.specs.declared.rows.chosen.Chosen.{Chosen}
use Rattle.gf_form.specs.declared.rows.terms.Head.{Head}
use Rattle.gf_form.specs.declared.rows.terms.Scaled.{Scaled}
use Rattle.gf_form.specs.declared.rows.terms.Terms.{Terms}
use Rattle.gf_form.specs.declared.rows.sums.Scale.{Scale}

-- a term
pub record Term : Type 0 where
  pub head : Head
  pub row : List ℤ

-- the number of the player at this position, from 1; the size stands before those of the players
abbrev pub number_at : ℕ → Term → ℤ
number_at k e = get_or (pos e.head.size ∷ e.row) k (pos 0)

-- what the numbers of the term at a place, from 0, are over
abbrev pub scaled_at : Terms → ℕ → Scaled
scaled_at t place = get_or t.scaled.items place (record { den = t.den; size = 0 })

-- the term at a place, from 0
abbrev pub term_at : Terms → ℕ → Term
term_at t place = record {
  head = record {
    demands = get_or t.demands.items place 0;
    den = (scaled_at t place).den;
    size = (scaled_at t place).size;
  };
  row = take t.players (drop (place * t.players) t.numbers.items);
}

-- this many of the first terms
abbrev pub first_terms : Terms → ℕ → List Term
first_terms t zero = []
first_terms t (suc n) = first_terms t n ++ term_at t n ∷ []

abbrev pub all_terms : Terms → List Term
all_terms t = first_terms t (length t.demands.items)

-- what the terms are over is as it was, and that of the next one is known
abbrev pub IsNoted : Terms → Terms → ℕ → ℕ → Type 0
IsNoted old new den size =
    ((k : ℕ) → k < length old.demands.items → scaled_at new k ≡ scaled_at old k)
    × (scaled_at new (length old.demands.items) ≡ record { den = den; size = size })

-- each term has a number for each player
pub record IsShaped (t : Terms) : Type 0 where
  pub count : length t.numbers.items ≡ length t.demands.items * t.players
  pub scaled : length t.scaled.items ≤ length t.demands.items

-- for as many players, and over the same denominator unless they are over others
abbrev pub AreAlike : Terms → Terms → Type 0
AreAlike a b = (a.players ≡ b.players) × (a.den ≡ b.den)

-- no term demands less than the one before it
abbrev pub AreOrdered : Terms → Type 0
AreOrdered t = IsNonDecreasing t.demands.items

-- as many numbers as there have to be, and terms in order of demands
abbrev pub AreInOrder : Terms → Type 0
AreInOrder t = IsShaped t × AreOrdered t

-- among demands in order, this many are below a number
pub record CountsBelow (demands : List ℕ) (number count : ℕ) : Type 0 where
  pub bound : count ≤ length demands
  pub below : (k : ℕ) → k < count → get_or demands k 0 < number
  pub above : (k : ℕ) → count ≤ k → k < length demands → number ≤ get_or demands k 0

-- those that demand nothing at the slowest digit, with this step, and those that demand the action
pub record AreChosen (demands : List ℕ) (step action : ℕ) (chosen : Chosen) : Type 0 where
  pub free : CountsBelow demands step chosen.free
  pub start : CountsBelow demands (action * step) chosen.start
  pub end : CountsBelow demands (action * step + step) chosen.end

abbrev pub AreWithin : List ℕ → Chosen → Type 0
AreWithin demands chosen = (chosen.free ≤ length demands) × (chosen.end ≤ length demands)

-- the last of these, if there is one, is no more
abbrev pub EndsBelow : List ℕ → ℕ → Type 0
EndsBelow demands n =
    (d : ℕ) → 0 < length demands → get_or demands (length demands - 1) d ≤ n

-- the terms from one place up to another, with demands lowered by this, may come next
pub record MayCome (from to : Terms) (less next end : ℕ) : Type 0 where
  pub rises : next < end → EndsBelow to.demands.items ((term_at from next).head.demands - less)
  pub least : (k : ℕ) → next ≤ k → k < end → less ≤ (term_at from k).head.demands
  pub within : end ≤ length from.demands.items

abbrev pub no_term : Term
no_term = record { head = record { demands = 0; den = 0; size = 0 }; row = [] }

-- the terms from one place up to another
abbrev pub part : ℕ → ℕ → List Term → List Term
part start end es = take (end - start) (drop start es)

-- the same with other demands
abbrev pub with_demands : ℕ → Term → Term
with_demands demands e = record {
  head = record { demands = demands; den = e.head.den; size = e.head.size };
  row = e.row;
}

abbrev pub lowered : ℕ → Term → Term
lowered less e = with_demands (e.head.demands - less) e

-- ---- sums of two terms

-- the first denominator times this is the second
pub record IsFactor (from den factor : ℕ) : Type 0 where
  pub above : 0 < from
  pub divides : from ∣ den
  pub factor_is : factor ≡ den / from

-- over this denominator, with these factors
pub record IsScale (a b : Head) (s : Scale) : Type 0 where
  pub first : IsFactor a.den s.den s.first
  pub second : IsFactor b.den s.den s.second
  pub size : s.size ≡ a.size * s.first + b.size * s.second

-- the sum of the numbers at this place, each times its factor, if the denominator is known
abbrev pub IsSumAt : List ℤ → List ℤ → Scale → ℕ → ℕ → ℤ → Type 0
IsSumAt first second s den k number = 0 < den → number
    ≡ get_or first k (pos 0) *ℤ pos s.first +ℤ get_or second k (pos 0) *ℤ pos s.second

-- the term is the sum of two others
pub record IsSumOf (a b sum : Term) : Type 0 where
  pub first : 0 < a.head.den
  pub first_divides : a.head.den ∣ sum.head.den
  pub second : 0 < b.head.den
  pub second_divides : b.head.den ∣ sum.head.den
  pub numbers : (k : ℕ) → number_at k sum ≡ number_at k a *ℤ pos (sum.head.den / a.head.den)
      +ℤ number_at k b *ℤ pos (sum.head.den / b.head.den)

-- one more term, with the demands of the first, which is the sum of two if it is known to fit
pub record HasSum (a b : Term) (old new : List Term) : Type 0 where
  pub sum : Term
  pub is : new ≡ old ++ sum ∷ []
  pub demands : sum.head.demands ≡ a.head.demands
  pub adds : 0 < sum.head.den → IsSumOf a b sum

-- ---- what the terms come to, over one denominator, at choices for each digit

abbrev pub IsExactAt : ℕ → List ℕ → List ℕ → Term → Type 0
IsExactAt den steps choices e =
    meets steps choices e.head.demands ≡ true → (0 < e.head.den) × (e.head.den ∣ den)

-- the denominators of those that are met are known, and divide this one
abbrev pub AreExactAt : ℕ → List ℕ → List ℕ → List Term → Type 0
AreExactAt den steps choices es = AllByRecursion (IsExactAt den steps choices) es

-- what the terms that are met come to for the player at this position, from 1, and at 0 their sizes
abbrev pub sum_of_terms : ℕ → ℕ → List ℕ → List ℕ → List Term → ℤ
sum_of_terms k den steps choices [] = pos 0
sum_of_terms k den steps choices (e ∷ es) =
    (if meets steps choices e.head.demands then number_at k e *ℤ pos (den / e.head.den) else pos 0)
    +ℤ sum_of_terms k den steps choices es

-- these terms, at choices for their digits, come to what others come to
pub record ComeTo (den : ℕ) (steps choices : List ℕ) (es : List Term) (others_steps others_choices
    : List ℕ) (others : List Term) : Type 0 where
  pub exact : AreExactAt den steps choices es
  pub sums : (k : ℕ) → sum_of_terms k den steps choices es
      ≡ sum_of_terms k den others_steps others_choices others

-- what is left of terms if this action is chosen at the slowest digit
abbrev pub AreMerged : ℕ → ℕ → List Term → List Term → Type 0
AreMerged step action es left = (den : ℕ) (steps choices : List ℕ)
    → AreExactAt den steps choices left
    → ComeTo den (step ∷ steps) (action ∷ choices) es steps choices left

-- the first come to what the others come to
abbrev pub ComeAsWell : List Term → List Term → Type 0
ComeAsWell es others = (den : ℕ) (steps choices : List ℕ) → AreExactAt den steps choices others
    → ComeTo den steps choices es steps choices others
