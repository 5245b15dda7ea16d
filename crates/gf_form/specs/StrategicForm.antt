-- The strategic form of a game.
use Rattle.std.specs.Prelude.{◌≡◌, ℕ, List, length, map}
use Rattle.std.specs.List.{AllByRecursion, AllZip, Contains}
use Rattle.gf_fraction.specs.Ratio.{Ratio, IsFraction}
use Rattle.gf_fraction.specs.Rational.{IsEqual}
use Rattle.gf_nfg.specs.Profiles.{profiles}
use Rattle.gf_nfg.specs.Table.{Table}
use Rattle.gf_tree.specs.Description.{SetKey}
use Rattle.gf_tree.specs.Game.{Game}
use Rattle.gf_form.specs.Strategies.{strategies, strategy_label, players_of}
use Rattle.gf_form.specs.Strategies.{strategies_at, choices_by, full_profiles}
use Rattle.gf_form.specs.Payoff.{payoff}

-- fractions, one for each player, that are the payoffs
abbrev pub ArePayoffs : Game → (SetKey → ℕ) → List Ratio → Type 0
ArePayoffs g choices payoffs =
    AllZip (λ paid player. IsFraction paid × IsEqual paid (payoff g choices player)) payoffs
    (players_of g)

-- the player's payoff is that of a fraction
abbrev pub PaysFraction : Game → (SetKey → ℕ) → ℕ → Type 0
PaysFraction g choices player =
    (paid : Ratio) × IsFraction paid × IsEqual paid (payoff g choices player)

-- each player's is, at each profile
abbrev pub PaysFractions : Game → Type 0
PaysFractions g = (profile : List ℕ) → Contains (full_profiles g) profile
    → AllByRecursion (PaysFraction g (choices_by g (strategies_at g profile))) (players_of g)

-- A table with the game's title, comment and players, with these labels of each player's
-- strategies, and with payoffs at each profile that are right there.
pub record IsFormWith (labels : ℕ → List (List ℕ)) (IsRight : List ℕ → List Ratio → Type 0)
    (g : Game) (t : Table) : Type 0 where
  pub title : t.title ≡ g.title
  pub comment : t.comment ≡ g.comment
  pub players : t.players ≡ g.players
  pub strategies : t.strategies ≡ map labels (players_of g)
  pub profiles : map (λ e. e.profile) t.entries ≡ profiles (map length t.strategies)
  pub payoffs : AllByRecursion (λ e. IsRight e.profile e.payoffs) t.entries

-- the labels of a player's strategies
abbrev pub strategy_labels : Game → ℕ → List (List ℕ)
strategy_labels g player = map strategy_label (strategies g player)

-- the payoffs if these strategies meet: each player's strategy is the one at their position in the
-- profile
abbrev pub ArePayoffsAt : Game → List ℕ → List Ratio → Type 0
ArePayoffsAt g profile payoffs = ArePayoffs g (choices_by g (strategies_at g profile)) payoffs

-- the strategic form: by the strategies, with the payoffs at each profile
abbrev pub IsStrategicForm : Game → Table → Type 0
IsStrategicForm g t = IsFormWith (strategy_labels g) (ArePayoffsAt g) g t
