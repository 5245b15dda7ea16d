-- A test, an option and a result have one value.
use Rattle.gf_tree.proofs.Common.{◌≡◌, Bool, true, false, Option, Some, Result, Ok, Err}

pub true_or_false : (b : Bool) → b ≡ true → b ≡ false → ⊥
true_or_false b h k = cc

pub one_some : {A : Type 0} (o : Option A) (x y : A) → o ≡ Some x → o ≡ Some y → x ≡ y
one_some o x y h k = cc

pub ok_or_err : {A E : Type 0} (r : Result A E) (x : A) (e : E) → r ≡ Ok x → r ≡ Err e → ⊥
ok_or_err r x e h k = cc

pub one_ok : {A E : Type 0} (r : Result A E) (x y : A) → r ≡ Ok x → r ≡ Ok y → x ≡ y
one_ok r x y h k = cc
