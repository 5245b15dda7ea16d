-- What a method knows about a fraction by its fields, stated for the ratio that clauses see.
use Rattle.std.proofs.Common.{◌≡◌, ap, subst}
use Rattle.gf_fraction.specs.Ratio.{Ratio, IsFraction}

pub IsFraction-seen : (fields seen : Ratio) → IsFraction fields → fields ≡ seen → IsFraction seen
IsFraction-seen fields seen h e = subst IsFraction e h

pub den_seen : (fields seen : Ratio) → fields ≡ seen → fields.den ≡ seen.den
den_seen fields seen e = ap (λ r. r.den) e
