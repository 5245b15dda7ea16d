-- Demands on choices, as numbers in mixed radix: a digit for each set at which a player has several
-- actions; it is 0 if any action will do, and otherwise the action's position. The slowest digit
-- comes first.
use Rattle.std.specs.Prelude.{ℕ, ◌+◌, ◌-◌, ◌*◌, ◌&&◌, Bool, true, false, List, [], ◌∷◌, map}
use Rattle.std.specs.Prelude.{nat_le, nat_lt, if◌then◌else◌}
use Rattle.gf_nfg.specs.Profiles.{product}

-- how many values each digit has, if there are this many actions
abbrev pub spans : List ℕ → List ℕ
spans actions = map (λ n. n + 1) actions

-- what one more at each digit adds to the number
abbrev pub steps_of : List ℕ → List ℕ
steps_of [] = []
steps_of (n ∷ faster) = product (spans faster) ∷ steps_of faster

-- the number that has these digits
abbrev pub pack : List ℕ → List ℕ → ℕ
pack (n ∷ faster) (d ∷ ds) = d * product (spans faster) + pack faster ds
pack _ _ = 0

-- whether these choices, one for each digit, meet the demands of a number
abbrev pub meets : List ℕ → List ℕ → ℕ → Bool
meets (step ∷ steps) (action ∷ actions) demands =
    if nat_lt demands step then meets steps actions demands
    else if nat_le (action * step) demands && nat_lt demands (action * step + step)
    then meets steps actions (demands - action * step)
    else false
meets _ _ demands = true
