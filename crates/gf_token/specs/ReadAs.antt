-- What is read of bytes that mean something, whatever the format.
use Rattle.std.specs.Prelude.{◌≡◌, Result, Ok, Err}
use Rattle.gf_token.specs.declared.fault.Fault.{Fault}
use Rattle.gf_token.specs.declared.fault.Why.{Why}

-- this, or out of memory
abbrev pub IsReadAs : {A : Type 0} → Result A Fault → A → Type 0
IsReadAs (Ok read) meant = read ≡ meant
IsReadAs (Err fault) meant = fault.why ≡ Why.Memory
