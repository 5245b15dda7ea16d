-- How the code of a reader follows its machine: answers carried back.
use Rattle.std.proofs.Common.{◌≡◌, Result, Err, sym, subst}
use Rattle.std.specs.Prelude.{IfErr, MatchResult}
use Rattle.gf_token.specs.declared.fault.Fault.{Fault}
use Rattle.gf_token.specs.inner.Machine.{Answer, Fails, Goes}

pub carried : {C : Type 0} {f : Fault} {a b : Answer C} → Fails f b → a ≡ b → Fails f a
carried {C} {f} {a} {b} h e = subst (Fails f) (sym e) h

-- if a call has failed
module _ {A C : Type 0} {r : Result A Fault} {f : Fault} {a : Answer C} where
  pub goes_back : (b : Answer C) → r ≡ Err f → Fails f a → Goes a r b
  goes_back b e h = subst (λ x. Goes a x b) (sym e) h

  pub fails_back : (P : A → Type 0) → r ≡ Err f → Fails f a → MatchResult r P (λ g. Fails g a)
  fails_back P e h = subst (λ x. MatchResult x P (λ g. Fails g a)) (sym e) h

pub refused_why : {A : Type 0} (f : Fault) (P : Fault → Type 0) (result : Result A Fault)
    → result ≡ Err f → P f → IfErr result P
refused_why f P result e h = subst (λ r. IfErr r P) (sym e) h
