-- What the players choose, as a walk through the tree goes by it.
use Rattle.std.specs.Prelude.{◌<◌, ℕ, List, [], get_or, length, map}
use Rattle.gf_tree.specs.Description.{SetKey}
use Rattle.gf_tree.specs.Game.{Game}
use Rattle.gf_form.specs.Strategies.{AreStrategies, choices_by, full_profiles}
use Rattle.gf_form.specs.Strategies.{strategies_at}
use Rattle.gf_form.specs.inner.rows.GameDigits.{HasDigits}
use Rattle.gf_form.specs.declared.values.choices.Choices.{Choices}
use Rattle.gf_form.specs.declared.values.choices.Choices.TheVariants.{Given, OfProfile}

-- the strategies that are chosen
abbrev pub strategies_of : Game → Choices → List (List ℕ)
strategies_of g (Given all) = map (λ own. own.items) all.now
strategies_of g (OfProfile number digits) = strategies_at g (get_or (full_profiles g) number [])

abbrev pub chosen_by : Game → Choices → SetKey → ℕ
chosen_by g choices = choices_by g (strategies_of g choices)

-- they have an action at each set
abbrev pub AreChoices : Game → Choices → Type 0
AreChoices g (Given all) = AreStrategies g (map (λ own. own.items) all.now)
AreChoices g (OfProfile number digits) = HasDigits g digits.now
    × (number < length (full_profiles g))
