-- The maps that new numbers are kept in.
use Rattle.std.specs.Prelude.{ℕ, Bool, Option, Some, if◌then◌else◌, map}
use Rattle.std.specs.declared.cmp.Ordering.{Ordering}
use Rattle.std.specs.Ordering.{nat_cmp, ordering_then}
use Rattle.std.specs.BTreeMap.{BTreeMap, get}
use Rattle.gf_tree.specs.Description.{SetKey, set_of}
use Rattle.gf_canon.specs.NewNumbers.{NewNumbers}

-- by player and number
abbrev pub set_order : ℕ × ℕ → ℕ × ℕ → Ordering
set_order a b = ordering_then (nat_cmp a.0 b.0) (nat_cmp a.1 b.1)

-- what a map has at a set
abbrev pub number_of_set : BTreeMap (ℕ × ℕ) ℕ → SetKey → Option ℕ
number_of_set sets key = get set_order sets (key.player, key.number)

-- the numbers that such maps hold
abbrev pub numbers_in : BTreeMap (ℕ × ℕ) ℕ → BTreeMap ℕ ℕ → NewNumbers
numbers_in sets outcomes = record {
  sets = map (λ e. (set_of e.0.0 e.0.1, e.1)) sets.entries;
  outcomes = outcomes.entries;
}

-- What a map has after a key at one node was given the number of the key at another. had : what it
-- had; number : the number of a key
abbrev pub noted : {K : Type 0} → (K → K → Bool) → (K → ℕ) → Option K → Option K → (K → Option ℕ)
    → K → Option ℕ
noted same number (Some old) (Some new) had key =
    if same old key then Some (number new) else had key
noted same number _ _ had key = had key
