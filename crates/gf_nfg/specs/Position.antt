-- The positions of a strategic file: what is due there.
use Rattle.std.specs.Prelude.{ℕ, Bool}

pub data Position : Type 0 where
  -- the name of the format, `NFG`
  Format : Position
  -- the version, `1`
  Version : Position
  -- the letter `R` or `D`
  Letter : Position
  Title : Position
  BeforePlayers : Position
  InPlayers : Position
  BeforeStrategies : Position
  -- one of this many counts or lists; without players the closing brace
  FirstStrategies : ℕ → Position
  -- one of this many more counts, or lists; after the last the closing brace
  Counts : ℕ → Position
  BeforeList : ℕ → Position
  -- before this many more lists, after this many labels
  InList : ℕ → ℕ → Position
  -- the comment or the body, which has this many payoffs if it is a flat list
  AfterStrategies : ℕ → Position
  AfterComment : ℕ → Position
  -- one of this many more payoffs of the flat list; after the last the end
  FlatPayoffs : ℕ → Position
  -- after this many outcomes
  InOutcomes : ℕ → Position
  OutcomeName : ℕ → Position
  -- whether a comma may stand here; after this many outcomes; and before this many more payoffs of
  -- the next one, after the last its closing brace
  BracedPayoff : Bool → ℕ → ℕ → Position
  -- one of this many more outcome numbers; after the last the end
  OutcomeNumbers : ℕ → ℕ → Position
