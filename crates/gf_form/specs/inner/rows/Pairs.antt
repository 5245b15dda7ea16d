-- What at most two terms come to: one that demands nothing, and one that demands an action of the
-- fastest digit.
use Rattle.std.specs.Prelude.{◌≡◌, ℕ, ℤ, suc, pos, ◌<◌, ◌^◌, ◌+ℤ◌, ◌*ℤ◌, List, [], ◌∷◌, get_or}
use Rattle.std.specs.Prelude.{◌++◌, length, map}
use Rattle.std.specs.Int.{◌∣◌}
use Rattle.gf_fraction.specs.Ratio.{HasValue, IsFraction, IsWithin, Ratio}
use Rattle.gf_tree.specs.Game.{Game}
use Rattle.gf_form.specs.inner.rows.TermLists.{AreExactAt, ComeTo, Term, all_terms, lowered, part}
use Rattle.gf_form.specs.inner.rows.TermLists.{sum_of_terms}
use Rattle.gf_form.specs.inner.rows.ItemRows.{HasRow}
use Rattle.gf_form.specs.inner.rows.SettledRows.{PaysOver}
use Rattle.gf_form.specs.declared.rows.chosen.Chosen.{Chosen}
use Rattle.gf_form.specs.declared.rows.pairs.Only.{Only}
use Rattle.gf_form.specs.declared.rows.pairs.Pair.{Pair}
use Rattle.gf_form.specs.declared.rows.terms.Terms.{Terms}

abbrev pub only_term : Only → Term
only_term only = record { head = only.head; row = only.numbers.now }

-- Terms that demand nothing more, their demands lowered by anything, come to this one, over each
-- denominator that its own divides.
abbrev pub IsOnly : List Term → Only → Type 0
IsOnly es only = (den less : ℕ) → 0 < only.head.den → only.head.den ∣ den
    → ComeTo den [] [] (map (lowered less) es) [] [] (only_term only ∷ [])

-- what the pair has for the player at this place, from 0
abbrev pub pair_number : Pair → ℕ → ℤ
pair_number pair k = get_or pair.first.now k (pos 0) *ℤ pos pair.scale.first
    +ℤ get_or pair.second.now k (pos 0) *ℤ pos pair.scale.second

-- at these choices the terms come to the pair, which fits
pub record ComeToPair (steps choices : List ℕ) (es : List Term) (pair : Pair) : Type 0 where
  pub above : 0 < pair.scale.den
  pub within : pair.scale.den < 2 ^ 127
  pub exact : AreExactAt pair.scale.den steps choices es
  pub size : IsWithin (sum_of_terms 0 pair.scale.den steps choices es)
  pub sums : (k : ℕ) → sum_of_terms (suc k) pair.scale.den steps choices es ≡ pair_number pair k

-- the pair is what the terms come to that are chosen, if they demand nothing more
abbrev pub IsPair : Terms → Chosen → Pair → Type 0
IsPair t chosen pair = (less : ℕ)
    → ComeToPair [] [] (map (lowered 0) (part 0 chosen.free (all_terms t))
    ++ map (lowered less) (part chosen.start chosen.end (all_terms t))) pair

-- the pair is what is paid at the profile with this number, from 0, among all
pub record IsPaidPair (g : Game) (number : ℕ) (pair : Pair) : Type 0 where
  pub above : 0 < pair.scale.den
  pub within : pair.scale.den < 2 ^ 127
  pub pays : (k : ℕ) → k < length g.players
      → PaysOver g number k pair.scale.den (pair_number pair k)

-- the value that the pair has for the player at this place, from 0
abbrev pub IsPairAt : Pair → ℕ → Ratio → Type 0
IsPairAt pair k payoff = IsFraction payoff × HasValue payoff (pair_number pair k) pair.scale.den

-- this many more fractions with these values
abbrev pub HasPairRow : Pair → ℕ → List Ratio → List Ratio → Type 0
HasPairRow pair players old new = HasRow (IsPairAt pair) players old new
