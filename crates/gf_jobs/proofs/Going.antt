-- While a run goes over files.
use Rattle.std.proofs.Common.{◌≡◌, ℕ, Bool, false, true, List, ◌∷◌, ◌+◌, ◌<◌, ◌≤◌, drop, get_or}
use Rattle.std.proofs.Common.{arith, length, max}
use Rattle.std.proofs.lemmas.List.{drop_all, drop_more}
use Rattle.gf_jobs.specs.Performs.{GoesOver}
use Rattle.gf_jobs.specs.declared.collections.file.CollectionFile.{CollectionFile}

-- what is left of a list: the item at a place, and then those after it
pub left_at : {X : Type 0} (xs : List X) (at : ℕ) (x : X) → at < length xs → x ≡ get_or xs at x
    → drop at xs ≡ x ∷ drop (at + 1) xs
left_at xs at x within is = cc (drop_more xs at x within)

module _ {A : Type 0} (Next : Bool → CollectionFile → ℕ → A → A → Type 0)
    (Close : ℕ → A → A → Type 0) (files : List CollectionFile) where
  -- what comes after the files so far comes after all of them
  pub record IsOn (at : ℕ) (start : A) (worst : ℕ) (now : A) : Type 0 where
    pub leads : (status : ℕ) (end : A) → GoesOver Next Close (drop at files) worst status now end
        → GoesOver Next Close files 0 status start end

  module _ (start now : A) (at worst : ℕ) (so_far : IsOn at start worst now) where
    module _ (file : CollectionFile) (within : at < length files)
        (is : file ≡ get_or files at file) where
      pub goes_on : (own more : ℕ) (next : A) → Next false file own now next → more ≡ max worst own
          → IsOn (at + 1) start more next
      goes_on own more next step is_more =
          record { leads = λ status end rest. grind (arith, left_at, so_far.leads) }

      pub stops : (own status : ℕ) (end : A) → Next true file own now end → status ≡ max worst own
          → GoesOver Next Close files 0 status start end
      stops own status end stop is_status = grind (arith, left_at, so_far.leads)

    pub closes : (own status : ℕ) (end : A) → length files ≤ at → Close own now end
        → status ≡ max worst own → GoesOver Next Close files 0 status start end
    closes own status end past close is_status = grind (arith, drop_all, so_far.leads)
