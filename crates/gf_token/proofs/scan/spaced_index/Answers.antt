use Rattle.gf_token.proofs.ScannedIndices.{scanned}
use Rattle.gf_token.proofs.ScannedNumbers.{length_range, finds_bare}
use Rattle.gf_token.proofs.SpelledNumbers.{digits_spelled}
use Rattle.gf_token.proofs.Steps.{gap_more}
use Rattle.std.proofs.Common.{arith}

pub returns : Rattle.gf_token.proofs.scan.spaced_index.Goals.returns
returns c =
    grind (arith, gap_more, length_range, finds_bare, digits_spelled, scanned)
