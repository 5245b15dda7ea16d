use Rattle.gf_nfg.proofs.Common.{◌≡◌, ◌++◌, Keeps}
use Rattle.gf_nfg.proofs.lemmas.texts.Pieces.{names_left}
use Rattle.gf_nfg.proofs.text.write.write_players.Given as goal

abbrev pub invariant-loop-at : goal.invariant-loop-at
invariant-loop-at l =
    (l.out.items ++ names_left l.frame.players l.at
    ≡ l.initial.out.items ++ names_left l.frame.players 0)
    × Keeps l.fn.out.items l.out.items
