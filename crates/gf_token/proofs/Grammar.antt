-- Groups of tokens, one after another.
use Rattle.std.proofs.Common.{List, [], ◌∷◌, ◌++◌, refl, append_assoc, arith}
use Rattle.std.specs.List.{AllByRecursion, flat_map}
use Rattle.gf_token.specs.Token.{Token}
use Rattle.gf_token.specs.Grammar.{Each}

pub each_group : {A : Type 0} (P : List Token → A → Type 0) (f : A → List Token) (xs : List A)
    → AllByRecursion (λ x. P (f x) x) xs → Each P (flat_map f xs) xs
each_group P f [] h = refl
each_group P f (x ∷ xs) h = (f x, flat_map f xs, refl, h.0, each_group P f xs h.1)

pub each_both : {A : Type 0} (P : List Token → A → Type 0) (xs ys : List A)
    (first others : List Token) → Each P first xs → Each P others ys
    → Each P (first ++ others) (xs ++ ys)
each_both P (x ∷ xs) ys first others h k =
    grind (arith, append_assoc, each_both P xs ys h.1 others h.4 k)
each_both P xs ys first others h k = grind arith
