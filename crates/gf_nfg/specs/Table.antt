-- The table that a strategic file means.
use Rattle.std.specs.Prelude.{◌≡◌, ℕ, ◌<◌, List, length, map}
use Rattle.std.specs.List.{AllByRecursion, Contains}
use Rattle.gf_fraction.specs.Ratio.{Ratio}
use Rattle.gf_nfg.specs.Profiles.{profiles}

-- what each player is paid at a profile
pub record Entry : Type 0 where
  pub profile : List ℕ
  pub payoffs : List Ratio

-- Labels are lists of bytes. `entries` is the finite map from profiles to payoffs.
pub record Table : Type 0 where
  pub title : List ℕ
  pub comment : List ℕ
  pub players : List (List ℕ)
  pub strategies : List (List (List ℕ))
  pub entries : List Entry

-- the table pays these at this profile
abbrev pub PaysAt : Table → List ℕ → List Ratio → Type 0
PaysAt t profile payoffs = Contains t.entries (record { profile = profile; payoffs = payoffs })

abbrev pub rows : Table → List (List Ratio)
rows t = map (λ e. e.payoffs) t.entries

-- each player has a nonempty list of strategies, each profile one entry, and each entry one payoff
-- for each player
pub record IsTable (t : Table) : Type 0 where
  pub one_list_each : length t.strategies ≡ length t.players
  pub some_strategy : AllByRecursion (λ labels. 0 < length labels) t.strategies
  pub one_entry_each : map (λ e. e.profile) t.entries ≡ profiles (map length t.strategies)
  pub one_payoff_each : AllByRecursion (λ row. length row ≡ length t.players) (rows t)
