-- What is told of a file determines what it means.
use Rattle.gf_canon.proofs.Common.{extensive, strategic, Heading, List, Told, refl, ℕ}
use Rattle.gf_canon.specs.KindOfFile.{MeansFileOf}
use Rattle.gf_canon.specs.inner.ToldFile.{IsToldFile}
use Rattle.gf_canon.specs.declared.kind.FileKind.{FileKind}

module _ {T : Type 0} (holds : T → Heading → List Told → Type 0) (to : T) (bytes : List ℕ) where
  pub means_file_of : (kind : FileKind) → IsToldFile holds to bytes kind → MeansFileOf bytes kind
  means_file_of FileKind.Tree h = (extensive h.0, record { spelled = h.1; within = tt }, refl)
  means_file_of FileKind.Strategic h = (strategic h.0, record { spelled = h.1; within = h.2 }, refl)
