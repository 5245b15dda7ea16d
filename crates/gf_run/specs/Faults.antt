-- The faults of a run: where they come from, which input each is about, its exit status, and its line.
use Rattle.std.specs.Prelude.{ℕ, Bool, true, false, List, [], ◌++◌, codes, if◌then◌else◌}
use Rattle.gf_token.specs.declared.fault.Why.{Why}
use Rattle.gf_canon.specs.declared.sameness.SameFault.{SameFault}
use Rattle.gf_token.specs.declared.form_fault.FormFault.{FormFault}
use Rattle.gf_explain.specs.FaultLine.{form_text, place_text}
use Rattle.gf_run.specs.declared.fault.RunFault.{RunFault}
use Rattle.gf_run.specs.declared.fault.Which.{Which}

-- if a game has no table
abbrev pub form_fault : FormFault → RunFault
form_fault FormFault.Memory = RunFault.Memory
form_fault fault = RunFault.Form fault

-- if two files are not compared
abbrev pub fault_of : SameFault → RunFault
fault_of (SameFault.First fault) = RunFault.Refused Which.First fault
fault_of (SameFault.Second fault) = RunFault.Refused Which.Second fault
fault_of SameFault.Memory = RunFault.Memory

-- whether a fault is about the second of two
abbrev pub is_of_second : RunFault → Bool
is_of_second (RunFault.Refused Which.Second fault) = true
is_of_second (RunFault.Read Which.Second) = true
is_of_second fault = false

-- ---- the exit status

-- of a refusal
abbrev pub refusal_status : Why → ℕ
refusal_status Why.Memory = 5
refusal_status _ = 2

-- of a fault
abbrev pub status_of : RunFault → ℕ
status_of (RunFault.Refused which fault) = refusal_status fault.why
status_of (RunFault.Read which) = 4
status_of RunFault.Write = 4
status_of RunFault.Memory = 5
status_of (RunFault.Form FormFault.Memory) = 5
status_of (RunFault.Form fault) = 2

-- of an answer: two files mean the same, a file is canonical or no files are duplicates, or not
abbrev pub answer_status : Bool → ℕ
answer_status good = if good then 0 else 1

-- ---- the line on standard error

-- what the line of a fault begins with: the input, if it is one of two
abbrev pub fault_prefix : RunFault → List ℕ
fault_prefix (RunFault.Refused Which.First fault) = codes "A: "
fault_prefix (RunFault.Refused Which.Second fault) = codes "B: "
fault_prefix (RunFault.Read Which.First) = codes "A: "
fault_prefix (RunFault.Read Which.Second) = codes "B: "
fault_prefix fault = []

-- the line of a fault, without the input that it begins with and without its line feed
abbrev pub short_line : RunFault → List ℕ
short_line (RunFault.Refused which fault) = place_text fault
short_line (RunFault.Read which) = codes "E20"
short_line RunFault.Write = codes "E21"
short_line (RunFault.Form fault) = form_text fault
short_line RunFault.Memory = codes "E19"

-- the line of a fault, with its line feed
abbrev pub fault_line : RunFault → List ℕ
fault_line fault = fault_prefix fault ++ short_line fault ++ codes "\n"
