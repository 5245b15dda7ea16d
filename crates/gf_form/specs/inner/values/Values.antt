-- The bottom-up value, computed. No public contract cites it: proofs/lemmas/values/ValuesComputed
-- proves that it is the value of the relation.
use Rattle.std.specs.Prelude.{ℕ, zero, suc, ◌+◌, ◌==◌, List, [], ◌∷◌, Option, Some, None}
use Rattle.std.specs.Prelude.{if◌then◌else◌}
use Rattle.gf_fraction.specs.Ratio.{Ratio}
use Rattle.gf_fraction.specs.Rational.{zero_ratio}
use Rattle.gf_fraction.specs.Offered.{product_of, sum_of}
use Rattle.gf_tree.specs.Tree.{Tree, Trees}
use Rattle.gf_tree.specs.Tree.Tree.{branch}
use Rattle.gf_tree.specs.Tree.Trees.{none, more}
use Rattle.gf_tree.specs.Description.{SetKey}
use Rattle.gf_tree.specs.Game.{Game, Node}
use Rattle.gf_form.specs.Payoff.{payoff_at, probability}

abbrev pub trees_of : {N : Type 0} → List (Tree N) → Trees N
trees_of [] = none
trees_of (t ∷ ts) = more t (trees_of ts)

-- the sum, if both are defined and it fits
abbrev pub plus_of : Option Ratio → Option Ratio → Option Ratio
plus_of (Some x) (Some y) = sum_of x y
plus_of _ _ = None

-- a multiple, if it is defined and fits
abbrev pub times_of : Ratio → Option Ratio → Option Ratio
times_of p (Some x) = product_of p x
times_of p None = None

-- the probability of each child of a node, by its position
abbrev pub chances_at : Game → Node → ℕ → Ratio
chances_at g n k = probability g (record { node = n; taken = k })

-- at a node of this set, what comes from below is added to its payoff; at a leaf, nothing is
abbrev pub value_over : Ratio → Option SetKey → (SetKey → Option Ratio) → Option Ratio
value_over own None below = Some own
value_over own (Some key) below = plus_of (Some own) (below key)

abbrev mutual
  pub value : Game → (SetKey → ℕ) → ℕ → Tree Node → Option Ratio
  value g choices player (branch n ts) =
      value_over (payoff_at g player n) n.set
      (λ key. if key.player == 0
      then chance_value g choices player (chances_at g n) 1 (Some zero_ratio) ts
      else child_value g choices player (choices key) ts)

  -- the sum so far, plus probability times value of each of these children in turn; the first one
  -- has position k
  pub chance_value : Game → (SetKey → ℕ) → ℕ → (ℕ → Ratio) → ℕ → Option Ratio → Trees Node
      → Option Ratio
  chance_value g choices player chances k sum none = sum
  chance_value g choices player chances k sum (more t ts) =
      chance_value g choices player chances (k + 1)
      (plus_of sum (times_of (chances k) (value g choices player t))) ts

  -- the value of the tree at this position, from 1
  pub child_value : Game → (SetKey → ℕ) → ℕ → ℕ → Trees Node → Option Ratio
  child_value g choices player position none = None
  child_value g choices player zero (more t ts) = None
  child_value g choices player (suc zero) (more t ts) = value g choices player t
  child_value g choices player (suc (suc position)) (more t ts) =
      child_value g choices player (suc position) ts
