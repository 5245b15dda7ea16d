-- A row refuses what it refuses for one reason.
use Rattle.std.proofs.Common.{List, ℕ, inl, inr, ◌≡◌, ◌∙◌, ◌∷◌, sym, arith, Option, Some, None}
use Rattle.std.proofs.Common.{subst}
use Rattle.std.proofs.lemmas.Int.{ints}
use Rattle.gf_fraction.specs.Ratio.{Ratio}
use Rattle.gf_fraction.proofs.Offered.{same_fault}
use Rattle.gf_token.specs.Token.{Token}
use Rattle.gf_token.specs.Token.Token.{Bare}
use Rattle.gf_token.specs.declared.fault.Why.{Why}
use Rattle.gf_token.specs.Role.{Role, RefusesBare, IsNoNumber, IsWrongAfter}
use Rattle.gf_token.specs.Row.{Row, OtherBare, Refuses}
use Rattle.gf_token.proofs.Lowest.{no_fault, one_number}

module _ (b : List ℕ) (why other : Why) where
  one_fault : IsNoNumber b why → IsNoNumber b other → why ≡ other
  one_fault h k = let same = same_fault b h.0 k.0 h.2 k.2 in grind arith

  one_wrong : (sum x : Ratio) → IsWrongAfter why sum x → IsWrongAfter other sum x → why ≡ other
  one_wrong sum x h k = grind (arith, ints)

  of_role : (role : Role) → RefusesBare role b why → RefusesBare role b other → why ≡ other
  of_role (Role.NodeLetter players) h k = grind arith
  of_role (Role.Player players) (inl h) (inl k) = h.0 ∙ sym k.0
  of_role (Role.Player players) (inr h) (inr k) = h.0 ∙ sym k.0
  of_role (Role.Player players) (inl h) (inr k) =
      let above = k.1.2 in absurd (h.1 k.1.0 (k.1.1, omega (arith, above)))
  of_role (Role.Player players) (inr h) (inl k) =
      let above = h.1.2 in absurd (k.1 h.1.0 (h.1.1, omega (arith, above)))
  of_role (Role.OutcomeOf outcomes) (inl h) (inl k) = h.0 ∙ sym k.0
  of_role (Role.OutcomeOf outcomes) (inr h) (inr k) = h.0 ∙ sym k.0
  of_role (Role.OutcomeOf outcomes) (inl h) (inr k) = absurd (h.1 k.1.0 k.1.1)
  of_role (Role.OutcomeOf outcomes) (inr h) (inl k) = absurd (k.1 h.1.0 h.1.1)
  of_role Role.Payoff h k = one_fault h k
  of_role (Role.Share sum) (inl h) (inl k) = one_fault h k
  of_role (Role.Share sum) (inr h) (inr k) =
      one_wrong sum h.0 h.2 (subst (IsWrongAfter other sum) (one_number b k.0 h.0 k.1 h.1) k.2)
  of_role (Role.Share sum) (inl h) (inr k) = absurd (no_fault b k.0 h.0 k.1 h.2)
  of_role (Role.Share sum) (inr h) (inl k) = absurd (no_fault b h.0 k.0 h.1 k.2)
  of_role (Role.Again p) (inl h) (inl k) = one_fault h k
  of_role (Role.Again p) (inr h) (inr k) = h.0 ∙ sym k.0
  of_role (Role.Again p) (inl h) (inr k) = absurd (no_fault b k.1.0 h.0 k.1.1 h.2)
  of_role (Role.Again p) (inr h) (inl k) = absurd (no_fault b h.1.0 k.0 h.1.1 k.2)
  of_role role h k = h ∙ sym k

  of_bare : (role : Option Role) (rest : Why) → OtherBare role b rest why
      → OtherBare role b rest other → why ≡ other
  of_bare (Some role) rest h k = of_role role h k
  of_bare None rest h k = h ∙ sym k

pub one_answer : (row : Row) (after : List Token) (why other : Why) → Refuses row after why
    → Refuses row after other → why ≡ other
one_answer row (Bare b ∷ after) why other h k = of_bare b why other row.bare _ h k
one_answer row after why other h k = grind arith
