-- What `==` says of headings: whether they stand for the same.
use Rattle.gf_tree.proofs.Common.{Decides-eqb, pointwise, label_of, nat_eq, arith, Bool, refl, map}
use Rattle.gf_tree.proofs.Common.{◌∷◌, ◌≡◌, []}
use Rattle.std.proofs.lemmas.Slice.Eq.{slice_eq-Decides}
use Rattle.std.specs.Bool.{Decides}
use Rattle.gf_token.specs.declared.label.Label.{Label}
use Rattle.gf_tree.specs.Told.{heading_of}
use Rattle.gf_tree.specs.contracts.reader.receive.ToldHeadingPartialEq.TheImpl.{eq-value as heading_eq}

-- it answers whether f makes the same of two values
abbrev pub Compares : {A B : Type 0} → (A → A → Bool) → (A → B) → Type 0
Compares {A} same f = (a b : A) → Decides (same a b) (f a ≡ f b)

labels : Compares (λ (a b : Label). pointwise nat_eq a.raw.now b.raw.now) label_of
labels a b = slice_eq-Decides Decides-eqb _ _ _ refl

module _ {A B : Type 0} (same : A → A → Bool) (f : A → B) (compares : Compares same f) where
  lists : Compares (pointwise same) (map f)
  lists [] [] = grind arith
  lists [] (b ∷ bs) = grind arith
  lists (a ∷ others) [] = grind arith
  lists (a ∷ others) (b ∷ bs) = grind (arith, compares a b, lists others bs)

pub equal_headings : Compares heading_eq.it heading_of
equal_headings a b = grind (arith, labels, lists)
