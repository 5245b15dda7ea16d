-- Keys with their descriptions, in order of first use.
use Rattle.std.specs.Prelude.{Bool, not, List, [], ◌∷◌, Option, option_map}
use Rattle.std.specs.List.{filter, find}

pub record Described (K D : Type 0) : Type 0 where
  pub key : K
  pub description : D

-- the description of a key, if it has one
abbrev pub description_at : {K D : Type 0} → (K → K → Bool) → List (Described K D) → K → Option D
description_at same entries key =
    option_map (λ e. e.description) (find (λ e. same e.key key) entries)

-- each of these keys once, at the place of its first use
abbrev pub first_uses : {K : Type 0} → (K → K → Bool) → List K → List K
first_uses same [] = []
first_uses same (key ∷ keys) = key ∷ filter (λ k. not (same key k)) (first_uses same keys)
