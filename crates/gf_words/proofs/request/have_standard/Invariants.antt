use Rattle.std.proofs.Common.{◌≡◌, drop, map}
use Rattle.std.specs.List.{list_any}
use Rattle.gf_words.specs.Request.{is_dash}
use Rattle.gf_words.proofs.request.have_standard.Given as goal

-- it is so of all words exactly if it is so of what is left
abbrev pub invariant-loop-word : goal.invariant-loop-word
invariant-loop-word l = list_any is_dash (map (λ word. word.now) (drop l.word-index l.words))
    ≡ list_any is_dash (map (λ word. word.now) l.words)
