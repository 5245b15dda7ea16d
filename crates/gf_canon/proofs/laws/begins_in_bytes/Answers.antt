use Rattle.gf_canon.proofs.Common.{inl, inr}
use Rattle.gf_canon.proofs.laws.begins_in_bytes.Goals as goal

pub returns : goal.returns
returns c = λ tokens spelled.
    let extensive = (c.begins_in_bytes.ensures tokens spelled).0 in
    let strategic = (c.begins_in_bytes-2.ensures tokens spelled).0 in (
      λ b. elim b.1 [
        | inl file ↦ let k = extensive (b.0, file) in (k.0, inl k.1, k.2)
        | inr file ↦ let k = strategic (b.0, file) in (k.0, inr k.1, k.2)
      ],
      λ b. (b.0, b.1),
    )
