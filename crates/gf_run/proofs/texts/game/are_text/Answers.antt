use Rattle.std.proofs.Common.{◌++◌, ◌≡◌, ℕ, List, arith}
use Rattle.std.proofs.lemmas.Bool.Decides.{Decides-eqb}
use Rattle.std.proofs.lemmas.List.{append_assoc, append_cancel_left}
use Rattle.std.proofs.lemmas.Slice.Eq.{strip_prefix_is}
use Rattle.std.specs.Prelude.{◌≢◌}
use Rattle.gf_run.proofs.texts.game.are_text.Goals as goal

-- what is left begins with a piece
further : (whole done left piece after : List ℕ) → whole ≡ done ++ left
    → left ≡ piece ++ after → whole ≡ done ++ piece ++ after
further whole done left piece after begins is = cc (append_assoc done piece after)

-- what is left of the text does, but of the bytes does not
differ : (bytes text done rest left piece after : List ℕ) → bytes ≡ done ++ rest
    → text ≡ done ++ left → left ≡ piece ++ after
    → ((more : List ℕ) → rest ≢ piece ++ more) → bytes ≢ text
differ bytes text done rest left piece after of_bytes of_text is none = grind (arith, append_cancel_left)

pub loop-text-preserved : goal.loop-text-preserved
loop-text-preserved c =
    let stripped = strip_prefix_is Decides-eqb c.loop-text.rest.now c.piece.result.now
    c.strip_prefix.result c.strip_prefix.ensures.cases in
    let seen = c.loop-text.invariant in (
      seen.0 ++ c.piece.result.now,
      further _ _ _ _ _ seen.1 (rw c.in-Some.is at stripped),
      further c.args.text.rest seen.0 c.loop-text.text.rest c.piece.result.now
          c.advance.new.self.rest seen.2 (rw c.piece.ensures c.advance.ensures.given),
    )

pub returns-in-None : goal.returns-in-None
returns-in-None c =
    let stripped = strip_prefix_is Decides-eqb c.loop-text.rest.now c.piece.result.now
    c.strip_prefix.result c.strip_prefix.ensures.cases in
    let seen = c.loop-text.invariant in (
      λ never. cc,
      λ same. absurd (differ c.args.bytes.now c.args.text.rest seen.0 c.loop-text.rest.now
          c.loop-text.text.rest c.piece.result.now c.advance.new.self.rest seen.1 seen.2
          (rw c.piece.ensures c.advance.ensures.given) (rw c.in-None.is at stripped) same),
    )
