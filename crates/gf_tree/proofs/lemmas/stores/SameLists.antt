-- Lists whose items are tested one by one for what they stand for.
use Rattle.gf_tree.proofs.Common.{◌≡◌, ℕ, suc, ◌+◌, ◌<◌, ◌≤◌, List, ◌∷◌, length, map}
use Rattle.gf_tree.proofs.Common.{take, get_or, sym, ap, ◌∙◌, arith, length-map, take_all}
use Rattle.gf_tree.proofs.lemmas.games.Members.{beside}

module _ {A B : Type 0} (f : A → B) where
  pub same_there : (xs ys : List A) (k : ℕ) (x y : A) → k < length xs
      → x ≡ get_or xs k x → y ≡ get_or ys k y → map f xs ≡ map f ys → f x ≡ f y
  same_there xs ys k x y h at_x at_y e =
      ap f at_x ∙ beside f f xs ys k x y e h ∙ ap f (sym at_y)

  one_further : (xs ys : List A) (k : ℕ) (x y : A) → k < length xs → length xs ≡ length ys
      → f (get_or xs k x) ≡ f (get_or ys k y) → take k (map f xs) ≡ take k (map f ys)
      → take (suc k) (map f xs) ≡ take (suc k) (map f ys)
  one_further (a ∷ xs) (b ∷ ys) (suc k) x y h n e s =
      let first : f a ≡ f b = cc in
      let rest : take k (map f xs) ≡ take k (map f ys) = cc in
      let others = one_further xs ys k x y (omega (arith, h)) (omega (arith, n)) e rest in
      λ i. first i ∷ others i
  one_further xs ys k x y h n e s = grind arith

  -- one more place
  pub same_more : (xs ys : List A) (k : ℕ) (x y : A) → k < length xs → length xs ≡ length ys
      → x ≡ get_or xs k x → y ≡ get_or ys k y → f x ≡ f y
      → take k (map f xs) ≡ take k (map f ys) → take (k + 1) (map f xs) ≡ take (k + 1) (map f ys)
  same_more xs ys k x y h n at_x at_y e s = grind (arith, one_further)

  -- at the end
  pub same_all : (xs ys : List A) (k : ℕ) → length xs ≤ k → length xs ≡ length ys
      → take k (map f xs) ≡ take k (map f ys) → map f xs ≡ map f ys
  same_all xs ys k h n s = grind (arith, take_all, length-map)

pub ruleset same_items = (same_all, same_more, same_there)
