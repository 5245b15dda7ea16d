-- What a reader tells of a file: its heading, and then payoffs and numbers of outcomes.
use Rattle.std.specs.Prelude.{ℕ, List, [], ◌∷◌, ◌++◌}
use Rattle.gf_fraction.specs.Ratio.{Ratio}
use Rattle.gf_nfg.specs.declared.heading.Heading.{Heading}
use Rattle.gf_nfg.specs.declared.receive.Version.{Version}

-- the payoffs are those of the profiles or those of the outcomes, in turn; the numbers are those of
-- the outcomes at the profiles, in turn
pub record Told : Type 0 where
  pub version : Version
  pub heading : Heading
  pub payoffs : List Ratio
  pub numbers : List ℕ

abbrev pub told_heading : Version → Heading → Told
told_heading version heading =
    record { version = version; heading = heading; payoffs = []; numbers = [] }

-- with one more payoff
abbrev pub with_payoff : Told → Ratio → Told
with_payoff t payoff = record t { payoffs = t.payoffs ++ payoff ∷ [] }

-- with one more number
abbrev pub with_number : Told → ℕ → Told
with_number t number = record t { numbers = t.numbers ++ number ∷ [] }
