-- The visits of a player to their sets, and which of them come about by their own choices.
use Rattle.std.specs.Prelude.{◌==◌, ◌&&◌, Bool, List, ◌≡◌, ◌≤◌, ◌+◌, ◌*◌, ◌%◌, ◌^◌, ℕ}
use Rattle.std.specs.List.{list_any, AllZip}
use Rattle.gf_form.specs.inner.rows.Demands.{meets}
use Rattle.gf_form.specs.declared.reduced.visits.Visit.{Visit}

-- one of this many actions at each set
abbrev pub AreActions : List ℕ → List ℕ → Type 0
AreActions counts strategy =
    AllZip (λ action count. (1 ≤ action) × (action ≤ count)) strategy counts

-- a visit to the set at this place, from 0, that comes about by these choices at the digits
abbrev pub is_met_on : ℕ → List ℕ → List ℕ → Visit → Bool
is_met_on place steps choices v = v.set == place && meets steps choices v.demands

-- the same visits, each of them at least once
abbrev pub HoldTheSame : List Visit → List Visit → Type 0
HoldTheSame visits others = (test : Visit → Bool) → list_any test others ≡ list_any test visits

-- orders visits by demands
abbrev pub order_of : Visit → ℕ
order_of v = v.demands * 2 ^ 32 + v.set % 2 ^ 32

-- some visit to this set comes about
abbrev pub is_met : ℕ → List ℕ → List ℕ → List Visit → Bool
is_met place steps choices visits = list_any (is_met_on place steps choices) visits
