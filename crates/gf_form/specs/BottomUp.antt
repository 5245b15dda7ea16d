-- The bottom-up value of a game. It decides which payoffs overflow, and never what a payoff is.
use Rattle.std.specs.Prelude.{◌≡◌, ℕ, zero, suc, ◌+◌, ◌==◌, MatchOption}
use Rattle.std.specs.Bool.{MatchBool}
use Rattle.gf_fraction.specs.Ratio.{Ratio}
use Rattle.gf_fraction.specs.Sum.{AddsTo}
use Rattle.gf_fraction.specs.Product.{MultipliesTo}
use Rattle.gf_fraction.specs.Rational.{zero_ratio}
use Rattle.gf_tree.specs.Tree.{Tree, Trees}
use Rattle.gf_tree.specs.Tree.Tree.{branch}
use Rattle.gf_tree.specs.Tree.Trees.{none, more}
use Rattle.gf_tree.specs.Description.{SetKey}
use Rattle.gf_tree.specs.Game.{Node, Game}
use Rattle.gf_form.specs.Payoff.{probability, payoff_at}

-- nobody moves at the node: its payoff
abbrev pub IsTerminalValue : Game → ℕ → Node → Ratio → Type 0
IsTerminalValue g player n value = value ≡ payoff_at g player n

-- At a node of this set, its payoff plus what comes from below: by chance if chance moves, and by
-- choice if a player does.
abbrev pub IsMoveValue : Game → ℕ → Node → SetKey → (Ratio → Type 0) → (Ratio → Type 0) → Ratio
    → Type 0
IsMoveValue g player n key IsByChance IsByChoice value =
    (below : Ratio) × MatchBool (key.player == 0) (IsByChance below) (IsByChoice below)
    × AddsTo (payoff_at g player n) below value

abbrev mutual
  -- By chance, the sum over the children comes from below; by choice, the value of the child that
  -- is chosen.
  pub IsValue : Game → (SetKey → ℕ) → ℕ → Tree Node → Ratio → Type 0
  IsValue g choices player (branch n ts) value =
      MatchOption n.set (IsTerminalValue g player n value)
      (λ key. IsMoveValue g player n key (IsChanceValue g choices player n 1 zero_ratio ts)
      (IsChildValue g choices player (choices key) ts) value)

  -- the sum so far, plus probability times value of each of these children in turn; the first one
  -- has position k
  pub IsChanceValue : Game → (SetKey → ℕ) → ℕ → Node → ℕ → Ratio → Trees Node → Ratio → Type 0
  IsChanceValue g choices player n k sum none value = value ≡ sum
  IsChanceValue g choices player n k sum (more t ts) value =
      (x y next : Ratio) × IsValue g choices player t x
      × MultipliesTo (probability g (record { node = n; taken = k })) x y × AddsTo sum y next
      × IsChanceValue g choices player n (k + 1) next ts value

  -- the value of the tree at this position, from 1
  pub IsChildValue : Game → (SetKey → ℕ) → ℕ → ℕ → Trees Node → Ratio → Type 0
  IsChildValue g choices player position none value = ⊥
  IsChildValue g choices player zero (more t ts) value = ⊥
  IsChildValue g choices player (suc zero) (more t ts) value = IsValue g choices player t value
  IsChildValue g choices player (suc (suc position)) (more t ts) value =
      IsChildValue g choices player (suc position) ts value
