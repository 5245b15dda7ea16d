use Rattle.gf_fraction.proofs.WrittenText.{number_parts}
use Rattle.gf_fraction.proofs.WrittenText.{signed}
use Rattle.std.proofs.Common.{append_assoc}
use Rattle.std.proofs.Math.Seq.{take-append-add}
use Rattle.std.proofs.Common.{to_z-of_z, arith}
use Rattle.std.proofs.Math.Seq.{take-append_seam}

pub returns-clause-ok : Rattle.gf_fraction.proofs.write.write_words.Goals.returns-clause-ok
returns-clause-ok c =
    grind (arith, to_z-of_z, take-append_seam, take-append-add, append_assoc, signed, number_parts)
