-- Which files the names of a collection lead to.
use Rattle.std.specs.Prelude.{◌≡◌, ◌≢◌, ◌||◌, ℕ, Bool, true, false, not, List, [], ◌∷◌, ◌++◌}
use Rattle.std.specs.Prelude.{codes, filter, if◌then◌else◌, nat_eq}
use Rattle.std.specs.BTreeSet.{BTreeSet, contains, insert_key}
use Rattle.std.specs.List.{AllZip, ends_with, starts_with}
use Rattle.std.specs.Ordering.{nat_cmp, ordering_then}
use Rattle.std.specs.Str.{IsUtf8}
use Rattle.std.specs.Str.Lossy.{utf8_lossy}
use Rattle.std.specs.String.{string_bytes}
use Rattle.std.specs.declared.cmp.Ordering.{Ordering}
use Rattle.gf_words.specs.GameNames.{is_game_name}
use Rattle.gf_words.specs.declared.job.Input.{Input}
use Rattle.gf_jobs.specs.Lines.{after_name}
use Rattle.gf_jobs.specs.Opening.{Opener}
use Rattle.gf_jobs.specs.declared.collections.file.CollectionFile.{CollectionFile}
use Rattle.gf_jobs.specs.declared.collections.kept_files.Fate.{Fate}
use Rattle.gf_jobs.specs.declared.collections.kept_files.Repeats.{Repeats}
use Rattle.gf_jobs.specs.declared.collections.kept_files.SoFar.{SoFar}
use Rattle.gf_jobs.specs.declared.opening.inputs.Found.{Found}

-- ---- paths

-- a file has this path; one whose path is not text has it with U+FFFD in place of what is not
abbrev pub HasPath : List ℕ → CollectionFile → Type 0
HasPath path (CollectionFile.Input Input.Standard) = ⊥
HasPath path (CollectionFile.Input (Input.File name)) = string_bytes name ≡ path
HasPath path (CollectionFile.NotText shown) =
    (¬ (IsUtf8 path)) × (string_bytes shown ≡ utf8_lossy path)

-- the path of the folder that has this name
abbrev pub folder_at : List ℕ → List ℕ
folder_at name = if ends_with nat_eq name (codes "/") then name else name ++ codes "/"

-- the files of these names in a folder, without the hidden ones
abbrev pub AreIn : (folder : List ℕ) → (names : List (List ℕ)) → List CollectionFile → Type 0
AreIn folder names files = AllZip (λ name. HasPath (folder ++ name))
    (filter (λ name. not (starts_with nat_eq name (codes "."))) names) files

-- ---- what has come so far

-- files and folders, which are told apart by device and number
abbrev pub Seen : Type 0
Seen = BTreeSet (ℕ × ℕ)

abbrev pub by_identity : ℕ × ℕ → ℕ × ℕ → Ordering
by_identity a b = ordering_then (nat_cmp a.0 b.0) (nat_cmp a.1 b.1)

-- ---- what becomes of what is looked at

-- it is kept, or no game file
abbrev pub kept_if : Bool → Fate
kept_if is_kept = if is_kept then Fate.Kept else Fate.NoGame

-- what is kept of it
abbrev pub kept_of : CollectionFile → Fate → List CollectionFile
kept_of file Fate.Kept = file ∷ []
kept_of file fate = []

-- whether it counts as a game file, be it new or not
abbrev pub counts_as_game : Fate → Bool
counts_as_game Fate.NoGame = false
counts_as_game fate = true

-- A file was found. It is kept if it was named. Below a folder it is kept if it may be a game and, where
-- repeats are passed over, has not come before.
abbrev pub IsNoted : Repeats → (named may_be_game : Bool) → (file : ℕ × ℕ) → (old new : Seen) → Fate
    → Type 0
IsNoted repeats named false file old new fate = (new ≡ old) × (fate ≡ Fate.NoGame)
IsNoted Repeats.Kept named true file old new fate = (new ≡ old) × (fate ≡ Fate.Kept)
IsNoted Repeats.PassedOver named true file old new fate =
    (new.keys ≡ insert_key by_identity old.keys file)
    × (fate ≡ if named || not (contains by_identity old file) then Fate.Kept else Fate.PassedOver)

-- for what shows which files there are, as it is; `repeats` says whether a file is kept again
module _ {I S : Type 0} (opener : Opener I S) (i : I) (repeats : Repeats) where
  -- a folder was found, which may have been opened before
  pub data Enters (path : List ℕ) (folder : ℕ × ℕ) (old new : Seen)
      : (inside : List CollectionFile) → Fate → Type 0 where
    -- it is not opened again
    again : contains by_identity old folder ≡ true → new.keys ≡ old.keys
        → Enters path folder old new [] Fate.NoGame
    -- what is in it is looked at next; it is kept if its names are not all known, and then cannot be
    -- read either
    first : (names : List (List ℕ)) (is_whole : Bool) (inside : List CollectionFile)
        → contains by_identity old folder ≡ false → new.keys ≡ insert_key by_identity old.keys folder
        → opener.listed i (folder_at path) names is_whole → AreIn (folder_at path) names inside
        → Enters path folder old new inside (kept_if (not is_whole))

  -- what is at a path is looked at; `named` says whether it was named itself
  abbrev pub LooksAtPath : (named : Bool) → (path : List ℕ) → Found → (old new : SoFar)
      → (inside : List CollectionFile) → Fate → Type 0
  LooksAtPath named path (Found.Folder folder) old new inside fate =
      (new.files ≡ old.files) × Enters path folder old.folders new.folders inside fate
  LooksAtPath named path (Found.File file) old new inside fate = (new.folders ≡ old.folders)
      × (inside ≡ [])
      × IsNoted repeats named (named || is_game_name path) file old.files new.files fate
  LooksAtPath named path Found.Other old new inside fate =
      (new ≡ old) × (inside ≡ []) × (fate ≡ kept_if named)
  LooksAtPath named path Found.Nothing old new inside fate =
      (new ≡ old) × (inside ≡ []) × (fate ≡ kept_if (named || is_game_name path))

  -- the same for a file of a collection; one whose name is no text cannot be looked at, and is kept
  abbrev pub LooksAt : (named : Bool) → CollectionFile → (old new : SoFar)
      → (inside : List CollectionFile) → Fate → Type 0
  LooksAt named (CollectionFile.Input (Input.File path)) old new inside fate = (found : Found)
      × opener.is_at i (string_bytes path) found
      × LooksAtPath named (string_bytes path) found old new inside fate
  LooksAt named file old new inside fate = (new ≡ old) × (inside ≡ []) × (fate ≡ Fate.Kept)

  -- what is met at files, at each the file and then what is below it: the files that are kept, and
  -- whether any counts as a game file; `named` says whether the first was named itself
  pub data AreMet : (named : Bool) → List CollectionFile → (old new : SoFar)
      → (kept : List CollectionFile) → (some : Bool) → Type 0 where
    none : (named : Bool) (before : SoFar) → AreMet named [] before before [] false
    next : (named : Bool) (file : CollectionFile) (files inside below others : List CollectionFile)
        (old opened mid new : SoFar) (fate : Fate) (some more : Bool)
        → LooksAt named file old opened inside fate → AreMet false inside opened mid below some
        → AreMet false files mid new others more
        → AreMet named (file ∷ files) old new (kept_of file fate ++ below ++ others)
        (counts_as_game fate || some || more)

  -- what a name leads to: files, and whether any counts as a game file
  pub data LeadsTo (name : List ℕ) (old new : Seen) (kept : List CollectionFile) (some : Bool)
      : Type 0 where
    -- `-` is standard input
    is_standard : name ≡ codes "-" → new ≡ old → kept ≡ CollectionFile.Input Input.Standard ∷ []
        → some ≡ true → LeadsTo name old new kept some
    -- any other is a path: what is met there, and below it
    is_path : (file : CollectionFile) (first last : SoFar) → name ≢ codes "-" → HasPath name file
        → first.folders.keys ≡ [] → first.files ≡ old
        → AreMet true (file ∷ []) first last kept some → new ≡ last.files
        → LeadsTo name old new kept some

  -- what names lead to: the files of each after those of the names before it, and what is reported, a
  -- line for each name that has none
  pub data AreLedTo : (names : List (List ℕ)) → Seen → List CollectionFile → (report : List ℕ)
      → Type 0 where
    none : (seen : Seen) → seen.keys ≡ [] → AreLedTo [] seen [] []
    one_more : (names : List (List ℕ)) (name : List ℕ) (old new : Seen)
        (files own : List CollectionFile) (report : List ℕ) (some : Bool)
        → AreLedTo names old files report → LeadsTo name old new own some
        → AreLedTo (names ++ name ∷ []) new (files ++ own) (report
        ++ (if some then [] else after_name (utf8_lossy name) (codes "no game files\n")))
