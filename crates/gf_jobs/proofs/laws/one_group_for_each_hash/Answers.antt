use Rattle.std.proofs.Common.{◌≡◌, ◌∙◌, ℕ, List, arith, map, refl, sym}
use Rattle.std.specs.List.{Contains}
use Rattle.std.specs.Str.{bytes_eq}
use Rattle.gf_tree.proofs.Offered.{contains, has, has_map, in_filter, is_used, mapped_from}
use Rattle.gf_tree.proofs.Offered.{of_filter}
use Rattle.gf_jobs.proofs.Grouped.{same_hash_equality}
use Rattle.gf_jobs.specs.Duplicates.{AreInOneGroup, HashedFile, groups_of, hashes_of, having}
use Rattle.gf_jobs.proofs.laws.one_group_for_each_hash.Goals as goal

-- a file of the group of a hash has this hash
hash_in : (files : List HashedFile) (hash : List ℕ) (a : HashedFile)
    → Contains (having files hash) a
    → hash ≡ a.hash
hash_in files hash a m = (same_hash_equality hash a.hash).0
    (of_filter (λ file. bytes_eq hash file.hash) files a (has (having files hash) a m)).1

-- a file that has a hash is in its group
in_group : (files : List HashedFile) (hash : List ℕ) (a : HashedFile) → Contains files a
    → hash ≡ a.hash → Contains (having files hash) a
in_group files hash a m e = grind (arith, contains, has, in_filter, same_hash_equality)

alike : (files : List HashedFile) (a b : HashedFile) → AreInOneGroup files a b → a.hash ≡ b.hash
alike files a b (group, is_group, first, second) =
    let from = mapped_from (having files) (hashes_of files) group
    (has (groups_of files) group is_group) in
    sym (hash_in files from.0 a (rw from.2 first)) ∙ hash_in files from.0 b (rw from.2 second)

together : (files : List HashedFile) (a b : HashedFile) → Contains files a → Contains files b
    → a.hash ≡ b.hash → AreInOneGroup files a b
together files a b m n e = (
  having files a.hash,
  contains (groups_of files) (having files a.hash) (has_map (having files) (hashes_of files) a.hash
      (is_used bytes_eq same_hash_equality (map (λ file. file.hash) files) a.hash
      (has_map (λ file. file.hash) files a (has files a m)))),
  in_group files a.hash a m refl,
  in_group files a.hash b n e,
)

pub returns : goal.returns
returns c = λ files a b m n. (alike files a b, together files a b m n)
