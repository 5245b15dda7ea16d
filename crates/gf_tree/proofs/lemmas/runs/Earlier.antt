-- Nodes that were read before change nothing in what the machine does.
use Rattle.gf_tree.proofs.Common.{after_nodes, append_assoc, then_run, Position, Content, Remaining}
use Rattle.gf_tree.proofs.Common.{Lexeme, nat_eq, length, Listed, Format, Result, placed, State}
use Rattle.gf_tree.proofs.Common.{arith, heard, Token, List, refl, Node, step, ◌≡◌, ◌∷◌, ◌∙◌, Err}
use Rattle.gf_tree.proofs.Common.{Why, run, [], Ok, ap, at, ℕ}
use Rattle.gf_tree.specs.inner.ReaderState.{with_front, with_nodes}

module _ (ns : List (Listed Node)) where
  abbrev fronted : Result State Why → Result State Why
  fronted (Ok s) = Ok (at s.position (with_front ns s.content))
  fronted (Err why) = Err why

  -- each position is a case of its own
  step_more : (q : Position) (c : Content) (t : Token)
      → step q (with_front ns c) t ≡ fronted (step q c t)
  step_more Format c t = grind arith
  step_more q c t = grind (arith, append_assoc, nat_eq)

  run_more : (end : ℕ) (q : Position) (c : Content) (ls : List Lexeme)
      → run end q (with_front ns c) ls ≡ with_nodes ns (run end q c ls)
  run_more end q c [] = grind arith
  run_more end q c (l ∷ ls) =
      ap (λ o. then_run (placed l.start l.end o) (λ s. run end s.position s.content ls))
      (step_more q c l.token) ∙ by (step q c l.token) (λ s. run_more end s.position s.content ls)
    where
      by : (o : Result State Why) → ((s : State) → run end s.position (with_front ns s.content) ls
          ≡ with_nodes ns (run end s.position s.content ls))
          → then_run (placed l.start l.end (fronted o)) (λ s. run end s.position s.content ls)
          ≡ with_nodes ns (then_run (placed l.start l.end o) (λ s. run end s.position s.content ls))
      by (Ok s) later = later s
      by (Err why) later = refl

  -- so the machine answers with those nodes before its own
  pub heard_more : (q : Position) (c : Content) (t : Remaining)
      → heard q (with_front ns c) t ≡ after_nodes ns (heard q c t)
  heard_more q c t = cc (run_more (length t.input) q c t.ahead)
