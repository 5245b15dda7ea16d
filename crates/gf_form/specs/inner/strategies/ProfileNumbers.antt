-- Profiles by their numbers among all, from 0.
use Rattle.std.specs.Prelude.{◌≡◌, ℕ, ◌+◌, ◌-◌, ◌<◌, List, [], get_or, length, map, zip}
use Rattle.std.specs.List.{AllByRecursion, AllZip}
use Rattle.gf_nfg.specs.Profiles.{product, profiles}
use Rattle.gf_tree.specs.Game.{Game}
use Rattle.gf_form.specs.Strategies.{full_profiles}

-- they are those of profiles
abbrev pub AreProfileNumbers : Game → List ℕ → Type 0
AreProfileNumbers g numbers = AllByRecursion (λ number. number < length (full_profiles g)) numbers

abbrev pub numbered_profiles : Game → List ℕ → List (List ℕ)
numbered_profiles g numbers = map (λ number. get_or (full_profiles g) number []) numbers

-- For each player, the numbers of some of their strategies, from 0. There are this many strategies
-- of each player.
abbrev pub AreBelow : List ℕ → List (List ℕ) → Type 0
AreBelow counts picked =
    AllZip (λ own count. AllByRecursion (λ number. number < count) own) picked counts

-- the strategies of a profile of these, by their positions among all, from 1
abbrev pub full_at : List (List ℕ) → List ℕ → List ℕ
full_at picked profile = map (λ p. get_or p.0 (p.1 - 1) 0 + 1) (zip picked profile)

-- If players have this many strategies each, the profile with this number has those of a profile of
-- the picked ones.
pub record IsPicked (counts : List ℕ) (picked : List (List ℕ)) (profile : List ℕ) (number : ℕ)
    : Type 0 where
  pub within : number < product counts
  pub is : get_or (profiles counts) number [] ≡ full_at picked profile

-- the numbers of the profiles of the picked strategies, in order
abbrev pub ArePicked : List ℕ → List (List ℕ) → List ℕ → Type 0
ArePicked counts picked numbers =
    AllZip (IsPicked counts picked) (profiles (map length picked)) numbers
