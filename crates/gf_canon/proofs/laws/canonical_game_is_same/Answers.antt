use Rattle.gf_canon.proofs.Common.{canonical_is_game, carries_to_canonical, canonical_twice}
use Rattle.gf_canon.proofs.laws.canonical_game_is_same.Goals as goal

pub returns-clause-is_game : goal.returns-clause-is_game
returns-clause-is_game c = canonical_is_game

pub returns-clause-carried : goal.returns-clause-carried
returns-clause-carried c = carries_to_canonical

pub returns-clause-again : goal.returns-clause-again
returns-clause-again c = canonical_twice
