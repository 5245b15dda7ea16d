-- The digits of sets, by how many actions there are at each.
use Rattle.std.specs.Prelude.{ℕ, suc, ◌*◌, List, [], ◌∷◌, ◌++◌}
use Rattle.gf_nfg.specs.Profiles.{product}
use Rattle.gf_form.specs.inner.rows.Demands.{spans}

-- what there is at those sets of a player that have two or more actions
abbrev pub picked : List ℕ → List ℕ → List ℕ
picked (suc (suc n) ∷ counts) (x ∷ xs) = x ∷ picked counts xs
picked (n ∷ counts) (x ∷ xs) = picked counts xs
picked _ _ = []

-- What there is at all players' sets, in the order of their digits, from the slowest on: the last
-- player's sets come first.
abbrev pub in_order : List (List ℕ) → List ℕ
in_order [] = []
in_order (own ∷ others) = in_order others ++ own

-- how many values the digits of these sets have together
abbrev pub width : List ℕ → ℕ
width counts = product (spans (picked counts counts))

-- What one more action at each of these sets adds to the number of a choice at all.
abbrev pub strides_of : List ℕ → List ℕ
strides_of [] = []
strides_of (n ∷ later) = product later ∷ strides_of later

-- The step of the digit of each of these sets, if the digits that are faster than all of them have
-- this many values together; 0 if there is no digit.
abbrev pub steps_after : ℕ → List ℕ → List ℕ
steps_after faster [] = []
steps_after faster (suc (suc n) ∷ later) = (width later * faster) ∷ steps_after faster later
steps_after faster (n ∷ later) = 0 ∷ steps_after faster later
