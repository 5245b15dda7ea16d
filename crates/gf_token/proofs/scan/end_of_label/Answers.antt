use Rattle.std.proofs.Common.{◌≡◌, ◌+◌, ◌<◌, ◌∷◌, ap, arith, length, subst, List, ℕ}
use Rattle.std.proofs.lemmas.Bool.Decides.{Decides-eqb, not_from_Decides}
use Rattle.std.proofs.lemmas.Slice.Eq.{slice_eq-Decides}
use Rattle.std.specs.Prelude.{slice_range}
use Rattle.gf_token.specs.inner.Finding.{lexed}
use Rattle.gf_token.specs.Label.{label_of}
use Rattle.gf_token.specs.Token.{lexeme}
use Rattle.gf_token.specs.Token.Token.{Text}
use Rattle.gf_token.proofs.TextsOfLabels.{label_found, too_short, no_quote_before, no_quote_after}
use Rattle.gf_token.proofs.TextsOfLabels.{other_bytes}
use Rattle.gf_token.proofs.scan.end_of_label.Goals.{then-input-start-ne34-via-then-input-start-ne34}
use Rattle.gf_token.proofs.scan.end_of_label.Goals.{
  then-input-start-ne34-via-else-input-start-ne34+then-input-text,
}
use Rattle.gf_token.proofs.scan.end_of_label.Goals.{
  else-input-quote-eq34-via-then-input-quote-eq34+else-eq,
}
use Rattle.gf_token.proofs.scan.end_of_label.Goals as goal

pub returns-then-input-start-ne34 : goal.returns-then-input-start-ne34
returns-then-input-start-ne34 c =
    let bytes = c.args.input.now in
    let start = c.args.start in
    let label = label_of c.args.label in
    elim c.then-input-start-ne34.branch [
      | then-input-start-ne34-via-then-input-start-ne34 w ↦
          no_quote_before bytes label start c.requires.no_gap w.if-input-start-ne34.true
      | then-input-start-ne34-via-else-input-start-ne34+then-input-text w ↦
          let size = ap length c.raw-raw.ensures.same in
          let short = w.if-input-text.true in
          too_short bytes label start c.requires.no_gap (omega (arith, short, size))
    ]

pub returns-then-eq : goal.returns-then-eq
returns-then-eq c =
    let bytes = c.args.input.now in
    let start = c.args.start in
    let raw = c.raw-raw.result.now in
    let end = start + 1 + length raw + 1 in
    let within : start + 1 + length raw < length bytes = omega arith in
    let equal = (slice_eq-Decides Decides-eqb (slice_range bytes (start + 1)
    (start + 1 + length raw)) raw c.eq.result c.eq.ensures).0 c.if-eq.true in
    subst (λ (x : List ℕ). lexed bytes start ≡ lexeme start end (Text x) ∷ lexed bytes end)
    c.raw-raw.ensures.same
    (label_found bytes raw start within c.if-input-start-ne34.false equal c.if-input-quote-eq34.true
    c.raw-raw.ensures.spelled)

pub returns-else-input-quote-eq34 : goal.returns-else-input-quote-eq34
returns-else-input-quote-eq34 c =
    grind (arith, other_bytes, not_from_Decides, slice_eq-Decides, Decides-eqb, no_quote_after)
