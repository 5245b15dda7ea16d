-- A probability as the reader has it.
use Rattle.std.specs.Prelude.{Result, Ok, Err}
use Rattle.gf_token.specs.declared.fault.Why.{Why}
use Rattle.gf_tree.specs.inner.Probability as computed
use Rattle.gf_tree.specs.declared.reader.readings.Share.{Share}

abbrev pub share_with : Share → computed.Share
share_with s = record { probability = s.probability; sum = s.sum }

abbrev pub shared : Result Share Why → Result (computed.Share) Why
shared (Ok s) = Ok (share_with s)
shared (Err why) = Err why
