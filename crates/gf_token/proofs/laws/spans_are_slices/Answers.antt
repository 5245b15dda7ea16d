use Rattle.gf_token.proofs.Spans.{stands_in}

pub returns : Rattle.gf_token.proofs.laws.spans_are_slices.Goals.returns
returns c = stands_in
