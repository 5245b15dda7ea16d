-- What is kept of files that were read, to tell which are the same game.
use Rattle.std.specs.Prelude.{◌≡◌, ℕ, List}
use Rattle.gf_jobs.specs.Duplicates.{HashedFile, hashes_of, named_groups}

-- their hashes, and for each hash the names of its files
pub record KeptNames : Type 0 where
  pub hashes : List (List ℕ)
  pub names : List (List (List ℕ))

-- this is kept of the files
pub record IsKeptOf (files : List HashedFile) (kept : KeptNames) : Type 0 where
  pub hashes : kept.hashes ≡ hashes_of files
  pub names : kept.names ≡ named_groups files
