-- Which of the files that were read are the same game, and the text that names them.
use Rattle.std.specs.Prelude.{ℕ, Bool, nat_lt, List, [], ◌∷◌, length, map}
use Rattle.std.specs.List.{Contains, filter, flat_map, join_by}
use Rattle.std.specs.Str.{bytes_eq}
use Rattle.gf_tree.specs.FiniteMap.{first_uses}
use Rattle.gf_words.specs.declared.job.LineEnd.{LineEnd}
use Rattle.gf_jobs.specs.Lines.{end_byte, name_line}

-- a file that was read: its name, and the hash of its canonical text
pub record HashedFile : Type 0 where
  pub name : List ℕ
  pub hash : List ℕ

-- the different hashes of files, in the order of the first files that have them
abbrev pub hashes_of : List HashedFile → List (List ℕ)
hashes_of files = first_uses bytes_eq (map (λ file. file.hash) files)

-- the files that have this hash, in their order
abbrev pub having : List HashedFile → List ℕ → List HashedFile
having files hash = filter (λ file. bytes_eq hash file.hash) files

-- the files in groups of one hash, a group for each hash
abbrev pub groups_of : List HashedFile → List (List HashedFile)
groups_of files = map (having files) (hashes_of files)

-- two files are in one group of these files
abbrev pub AreInOneGroup : List HashedFile → (a b : HashedFile) → Type 0
AreInOneGroup files a b = (group : List HashedFile) × Contains (groups_of files) group
    × Contains group a × Contains group b

-- the names of files
abbrev pub names_of : List HashedFile → List (List ℕ)
names_of files = map (λ file. file.name) files

-- whether a group has two files or more
abbrev pub has_two : List (List ℕ) → Bool
has_two names = nat_lt 1 (length names)

-- the names of the files of each group
abbrev pub named_groups : List HashedFile → List (List (List ℕ))
named_groups files = map names_of (groups_of files)

-- a line for each name
abbrev pub name_lines : LineEnd → List (List ℕ) → List ℕ
name_lines end names = flat_map (name_line end []) names

-- the names of groups, with an empty line between two groups
abbrev pub groups_text : LineEnd → List (List (List ℕ)) → List ℕ
groups_text end groups = join_by (name_lines end) (end_byte end ∷ []) groups
