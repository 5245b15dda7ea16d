-- Subtrees whose values no choice changes: leaves, those whose values are known, and those at nodes
-- of chance with such children alone.
use Rattle.gf_form.proofs.Common
use Common.{chance_value, child_trees, chances_at, zero_ratio, payoff_at, root_node, slice_get}
use Common.{cases_lt, times_of, trees_of, plus_of, Option, SetKey, Ratio, arith, value, Game, List}
use Common.{Node, None, Some, Tree, refl, inl, inr, suc, sym, ◌+◌, ◌<◌, ◌∙◌, ◌∷◌, ◌≡◌, [], ap, ℕ}
use Rattle.gf_form.proofs.lemmas.values.Walks.{value_by_chance, value_of_leaf}
use Rattle.gf_form.specs.inner.values.Still.{IsStill, IsStillRow}

pub still_leaf : (g : Game) (t : Tree Node) → (root_node t).set ≡ None → IsStill g t
still_leaf g t is choices others k = grind (arith, value_of_leaf)

pub still_known : (g : Game) (t : Tree Node) (row : List Ratio) → IsStillRow g t row → IsStill g t
still_known g t row is choices others k = is.values choices k ∙ sym (is.values others k)

sums_alike : (g : Game) (choices others : SetKey → ℕ) (player : ℕ) (ts : List (Tree Node))
    (chances : ℕ → Ratio) (k : ℕ) (sum : Option Ratio)
    → ((i : ℕ) (child : Tree Node) → slice_get ts i ≡ Some child
    → value g choices player child ≡ value g others player child)
    → chance_value g choices player chances k sum (trees_of ts)
    ≡ chance_value g others player chances k sum (trees_of ts)
sums_alike g choices others player [] chances k sum alike = refl
sums_alike g choices others player (t ∷ ts) chances k sum alike =
    rw (alike 0 t refl) (sums_alike g choices others player ts chances (k + 1)
    (plus_of sum (times_of (chances k) (value g others player t)))
    (λ i child there. alike (suc i) child there))

pub still_by_chance : (g : Game) (t : Tree Node) (key : SetKey) → (root_node t).set ≡ Some key
    → key.player ≡ 0
    → ((i : ℕ) (child : Tree Node) → slice_get (child_trees t) i ≡ Some child → IsStill g child)
    → IsStill g t
still_by_chance g t key is chance children choices others k =
    value_by_chance g choices (suc k) t key is chance
    ∙ ap (plus_of (Some (payoff_at g (suc k) (root_node t)))) (sums_alike g choices others (suc k)
    (child_trees t) (chances_at g (root_node t)) 1 (Some zero_ratio)
    (λ i child there. children i child there choices others k))
    ∙ sym (value_by_chance g others (suc k) t key is chance)

-- the first of these trees, and the next one
pub next_still : (g : Game) (ts : List (Tree Node)) (n : ℕ) (t : Tree Node)
    → slice_get ts n ≡ Some t → IsStill g t
    → ((k : ℕ) (child : Tree Node) → k < n → slice_get ts k ≡ Some child → IsStill g child)
    → (k : ℕ) (child : Tree Node) → k < n + 1 → slice_get ts k ≡ Some child → IsStill g child
next_still g ts n t there still before k child less is =
    elim (cases_lt k n) [
      | inl earlier ↦ before k child earlier is
      | inr last ↦
          let same : k ≡ n = omega arith in
          let e : t ≡ child = cc in rw e at still
    ]
