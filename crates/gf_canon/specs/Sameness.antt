-- What is answered when two files are compared.
use Rattle.std.specs.Prelude.{◌≡◌, ℕ, List}
use Rattle.gf_token.specs.declared.fault.Why.{Why}
use Rattle.gf_canon.specs.Judgement.{IsRefusedWith, MeansFile}
use Rattle.gf_canon.specs.declared.sameness.SameFault.{SameFault}

-- the first file is refused; or it is not, and the second is; or both mean files
abbrev pub AreRefusedWith : List ℕ → List ℕ → SameFault → Type 0
AreRefusedWith a b (SameFault.First fault) = IsRefusedWith a fault
AreRefusedWith a b (SameFault.Second fault) = MeansFile a × IsRefusedWith b fault
AreRefusedWith a b SameFault.Memory = MeansFile a × MeansFile b

-- memory was refused
abbrev pub LacksMemory : SameFault → Type 0
LacksMemory (SameFault.First fault) = fault.why ≡ Why.Memory
LacksMemory (SameFault.Second fault) = fault.why ≡ Why.Memory
LacksMemory SameFault.Memory = Unit {0}
