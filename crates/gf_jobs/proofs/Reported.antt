-- What was reported, and what failed.
use Rattle.std.proofs.Common.{◌≡◌, ◌≢◌, Bool, List, ℕ, Result, Ok, Err, IsErrAnd, OnErr, OnOk, arith, true}
use Rattle.std.proofs.Common.{inl, inr, refl, subst}
use Rattle.std.specs.Prelude.{⊤, Option}
use Rattle.std.specs.Result.{result_map_both}
use Rattle.std.specs.declared.io.Error.{Error}
use Rattle.gf_run.specs.Streams.{Stream, IsWriteFault, IsWritten}
use Rattle.gf_run.specs.declared.fault.RunFault.{RunFault}
use Rattle.gf_run.specs.declared.fault.Which.{Which}
use Rattle.gf_jobs.specs.Opening.{Opener, OpensBoth}
use Rattle.gf_jobs.specs.Performs.{of_fault}
use Rattle.gf_jobs.specs.Reports.{IsSent}
use Rattle.gf_jobs.specs.declared.explain.Failed.{Failed}

-- a text was written whole, or not, and what became of this is dropped
pub told : {W E S : Type 0} (writer : Stream S) (text : List ℕ) (old new : S) (r : Result W E)
    → OnOk r (IsWritten writer old new text) → OnErr r (IsWriteFault writer old new text)
    → IsSent writer text old new
told writer text old new (Ok done) all part = inl all
told writer text old new (Err fault) all part = inr part

-- of two, the one whose opening failed
pub unopened_one : {T : Type 0} (which : Which) (first second one : T)
    → (which ≡ Which.Second → one ≡ second) → (which ≢ Which.Second → one ≡ first)
    → one ≡ of_fault {A = Bool} (Err (RunFault.Read which)) first second
unopened_one Which.Only first second one is other = other (λ same. absurd cc)
unopened_one Which.First first second one is other = other (λ same. absurd cc)
unopened_one Which.Second first second one is other = is refl

-- what is opened, by other spellings of the names
pub opened_as : {I S : Type 0} (opener : Opener I S) (first second one other : Option (List ℕ)) (i i' : I)
    (answer : Result (S × S) (Which × Error)) → first ≡ one → second ≡ other
    → OpensBoth opener first second i answer i' → OpensBoth opener one other i answer i'
opened_as opener first second one other i i' answer is are opens =
    subst (λ second. OpensBoth opener one second i answer i') are
    (subst (λ first. OpensBoth opener first second i answer i') is opens)

-- a failure has this fault
pub is_failed : (r : Result ⊤ Failed) (fault : RunFault)
    → IsErrAnd r (λ failed. failed.fault ≡ fault)
    → result_map_both (λ done. true) (λ failed. failed.fault) r ≡ Err fault
is_failed r fault is = grind arith
