-- What was told of a file, and was kept or written, means its table.
use Rattle.gf_nfg.proofs.Common.{◌≡◌, ℕ, List, [], subst, content_of, content_told, Told}
use Rattle.gf_nfg.proofs.Common.{HasToldTable, MeansTable, Heading, Payoffs}
use Rattle.gf_nfg.specs.declared.receive.Kept.{Kept}

pub told_table : {T : Type 0} (holds : T → Told → Type 0) (bytes : List ℕ) (heading : Heading)
    (to : T) (told : Told) → told.heading ≡ heading → MeansTable bytes (content_told told)
    → (told.version ≡ Payoffs → told.numbers ≡ []) → holds to told
    → HasToldTable holds bytes heading to
told_table holds bytes heading to told same means unnumbered holding =
    subst (λ (h : Heading). HasToldTable holds bytes h to) same (record {
      version = told.version;
      payoffs = told.payoffs;
      numbers = told.numbers;
      means = means;
      unnumbered = unnumbered;
      holding = holding;
    })

pub kept_means : (bytes : List ℕ) (heading : Heading) (kept : Kept)
    → HasToldTable (λ (k : Kept) (told : Told). (k.payoffs.items ≡ told.payoffs)
    × (k.numbers.items ≡ told.numbers)) bytes heading kept
    → MeansTable bytes (content_of heading kept)
kept_means bytes heading kept h = rw (h.holding.0, h.holding.1) h.means
