-- Whether a list of actions may end.
use Rattle.std.specs.Prelude.{ℕ, zero, suc, Bool, true}
use Rattle.gf_fraction.specs.Ratio.{Ratio}
use Rattle.gf_tree.specs.inner.Probability.{is_one}

-- the probabilities of chance, which have this sum, add up to one; a player has none
abbrev pub adds_up : ℕ → Ratio → Bool
adds_up zero sum = is_one sum
adds_up (suc player) sum = true
