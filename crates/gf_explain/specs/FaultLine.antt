-- The line of a fault: why a file is refused, or why a game has no table.
use Rattle.std.specs.Prelude.{ℕ, List, ◌++◌, codes, decimal}
use Rattle.gf_token.specs.Code.{code_of}
use Rattle.gf_token.specs.declared.fault.Fault.{Fault}
use Rattle.gf_token.specs.declared.form_fault.FormFault.{FormFault}

-- a refusal's code and place
abbrev pub place_text : Fault → List ℕ
place_text fault = codes "E" ++ decimal (code_of fault.why)
    ++ codes " at " ++ decimal fault.span.start ++ codes ".." ++ decimal fault.span.end

-- why a game has no table
abbrev pub form_text : FormFault → List ℕ
form_text FormFault.TooManyProfiles = codes "too many profiles"
form_text (FormFault.Overflow profile) = codes "overflow at profile " ++ decimal profile
form_text FormFault.Memory = codes "E19"
