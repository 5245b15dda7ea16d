-- A node as it is kept.
use Rattle.std.specs.Prelude.{ℕ, List}

-- A node: its name, and the positions, from 1, of its set and its outcome among those that are known;
-- 0 if it has none.
pub record Kept : Type 0 where
  pub name : List ℕ
  pub set : ℕ
  pub outcome : ℕ
