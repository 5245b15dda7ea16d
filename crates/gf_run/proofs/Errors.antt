-- What holds for the value or for the error of a result.
use Rattle.std.proofs.Common.{◌≡◌, Result, Err, IsErrAnd, MatchResult, arith}

-- the only error that there is
pub only_error : {T E : Type 0} (r : Result T E) (only : E) (P : T → Type 0) (Q : E → Type 0)
    → IsErrAnd r (λ e. e ≡ only) → Q only → MatchResult r P Q
only_error r only P Q is holds = grind arith

-- a result that is this error
pub is_error : {T E : Type 0} (r : Result T E) (e : E) → IsErrAnd r (λ x. x ≡ e) → r ≡ Err e
is_error r e is = grind arith
