-- What is counted of the players of a game.
use Rattle.std.specs.Prelude.{◌≡◌, ◌≤◌, length, map}
use Rattle.gf_nfg.specs.Limit.{profile_limit}
use Rattle.gf_tree.specs.Game.{Game}
use Rattle.gf_tree.specs.IsGame.{IsGame}
use Rattle.gf_form.specs.Strategies.{action_counts, full_profiles, players_of, strategies}
use Rattle.gf_form.specs.declared.strategies.counts.Counts.{Counts}

-- the numbers of actions at each player's sets, the numbers of strategies, and the number of
-- profiles of a game
pub record AreCounts (g : Game) (c : Counts) : Type 0 where
  pub is_game : IsGame g
  pub actions : map (λ own. own.items) c.actions.items ≡ map (action_counts g) (players_of g)
  pub strategies : c.strategies.items ≡ map (λ player. length (strategies g player)) (players_of g)
  pub profiles : c.profiles.count ≡ length (full_profiles g)
  pub within : length (full_profiles g) ≤ profile_limit
