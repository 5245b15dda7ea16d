use Rattle.gf_tree.proofs.Common.{◌≡◌, ℕ, ◌+◌, ◌-◌, [], get_or}
use Rattle.std.proofs.Common.{vec_len}

abbrev pub invariant-loop-alloc : Rattle.gf_tree.proofs.game.sets.reach.Given.invariant-loop-alloc
invariant-loop-alloc l = (any : ℕ)
    → get_or l.players.items any [] ≡ get_or l.fn.players.items any []

abbrev pub decreases-loop-alloc : Rattle.gf_tree.proofs.game.sets.reach.Given.decreases-loop-alloc
decreases-loop-alloc l = l.player + 1 - vec_len l.players
