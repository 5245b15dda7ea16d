use Rattle.std.proofs.Common.{◌≡◌, ℕ, List, ◌++◌, length}
use Rattle.sha2.specs.Hashers.{Holds256}
use Rattle.gf_canon.proofs.hash.sha256_of.Given as goal

-- what was fed to the hasher is the text before what is left
abbrev pub invariant-loop-hasher : goal.invariant-loop-hasher
invariant-loop-hasher l = record {
  fed : List ℕ;
  holds : Holds256 l.hasher fed;
  front : fed ++ l.text.rest ≡ l.fn.text.rest;
}

abbrev pub decreases-loop-hasher : goal.decreases-loop-hasher
decreases-loop-hasher l = length l.text.rest
