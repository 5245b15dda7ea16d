use Rattle.std.proofs.Common.{◌≡◌, map, take}
use Rattle.std.specs.String.{string_bytes}
use Rattle.gamefile.proofs.arguments.words_of.Given as goal

abbrev pub invariant-loop-argument : goal.invariant-loop-argument
invariant-loop-argument l = map (λ word. word.now) l.words.items
    ≡ map string_bytes (take l.argument-index l.arguments)
