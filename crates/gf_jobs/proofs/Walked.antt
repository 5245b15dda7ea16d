-- What is met while a name is followed.
use Rattle.std.proofs.Common.{◌≡◌, ◌∷◌, ◌++◌, ◌+◌, ◌-◌, ◌<◌, ◌≤◌, ◌||◌, [], Bool, List, append-nil}
use Rattle.std.proofs.Common.{append_assoc, arith, drop, false, get_or, if◌then◌else◌, length, map}
use Rattle.std.proofs.Common.{refl, reverse, take, ℕ}
use Rattle.std.proofs.Math.Bool.{or-false, or_assoc}
use Rattle.std.proofs.lemmas.List.{drop_more, map_more, reverse-append}
use Rattle.std.specs.Prelude.{codes, nat_eq}
use Rattle.std.specs.List.{starts_with}
use Rattle.std.specs.Str.Lossy.{utf8_lossy}
use Rattle.gf_jobs.specs.LedTo.{AreIn, AreLedTo, AreMet, HasPath, LeadsTo, LooksAt, Seen}
use Rattle.gf_jobs.specs.LedTo.{counts_as_game, kept_of}
use Rattle.gf_jobs.specs.LedTo.AreLedTo.{one_more}
use Rattle.gf_jobs.specs.LedTo.AreMet.{next, none}
use Rattle.gf_jobs.specs.Lines.{after_name}
use Rattle.gf_jobs.specs.Opening.{Opener}
use Rattle.gf_jobs.specs.declared.collections.file.CollectionFile.{CollectionFile}
use Rattle.gf_jobs.specs.declared.collections.kept_files.Fate.{Fate}
use Rattle.gf_jobs.specs.declared.collections.kept_files.Repeats.{Repeats}
use Rattle.gf_jobs.specs.declared.collections.kept_files.SoFar.{SoFar}

-- one more of the names in a folder, which is not hidden
pub in_more : {V : Type 0} (bytes_of : V → List ℕ) (folder : List ℕ) (names : List V) (place : ℕ)
    (name : V) (file : CollectionFile) (inside : List CollectionFile) → 0 < place
    → place ≤ length names → name ≡ get_or names (place - 1) name
    → starts_with nat_eq (bytes_of name) (codes ".") ≡ false
    → HasPath (folder ++ bytes_of name) file
    → AreIn folder (map bytes_of (drop place names)) inside
    → AreIn folder (map bytes_of (drop (place - 1) names)) (file ∷ inside)
in_more bytes_of folder names place name file inside some within this shown is are =
    let rest : drop (place - 1) names ≡ name ∷ drop place names
    = grind (arith, drop_more names (place - 1) name, this) in
    rw (rest, shown) (is, are)

-- what is met at all of these files is what is met at the first ones, and then at the others
met_in_turn : {I S : Type 0} (opener : Opener I S) (i : I) (repeats : Repeats)
    (files others : List CollectionFile) (old new : SoFar) (kept : List CollectionFile) (some : Bool)
    → AreMet opener i repeats false (files ++ others) old new kept some → (mid : SoFar)
    × (first second : List CollectionFile) × (one two : Bool)
    × AreMet opener i repeats false files old mid first one
    × AreMet opener i repeats false others mid new second two × (kept ≡ first ++ second)
    × (some ≡ one || two)
met_in_turn opener i repeats [] others old new kept some are =
    (old, [], kept, false, some, none false old, are, refl, refl)
met_in_turn opener i repeats (file ∷ files) others old new kept some
    (next _ _ _ _ below rest _ _ mid _ fate inner outer looks are_below are) =
    let (left, first, second, one, two, are_first, are_second, all, any) =
    met_in_turn opener i repeats files others mid new rest outer are in (
      left,
      kept_of file fate ++ below ++ first,
      second,
      counts_as_game fate || inner || one,
      two,
      next _ _ _ _ _ _ _ _ _ _ _ _ _ looks are_below are_first,
      are_second,
      grind (arith, append_assoc, all),
      grind (arith, or_assoc, any),
    )

-- what is met at a file, and then at others, is all that is met
met_next : {I S : Type 0} (opener : Opener I S) (i : I) (repeats : Repeats) (named : Bool)
    (file : CollectionFile) (files inside below others kept : List CollectionFile)
    (old opened mid new : SoFar) (fate : Fate) (inner outer some : Bool)
    → LooksAt opener i repeats named file old opened inside fate
    → AreMet opener i repeats false inside opened mid below inner
    → AreMet opener i repeats false files mid new others outer → kept ≡ below ++ others
    → some ≡ inner || outer → AreMet opener i repeats named (file ∷ files) old new
    (kept_of file fate ++ kept) (counts_as_game fate || some)
met_next opener i repeats named file files inside below others kept old opened mid new fate inner outer
    some looks are_below are_others all any =
    rw (
      all,
      any,
      ← append_assoc (kept_of file fate) below others,
      ← or_assoc (counts_as_game fate) inner outer,
    )
    (next _ _ _ _ _ _ _ _ _ _ _ _ _ looks are_below are_others)

module _ {I S : Type 0} (opener : Opener I S) (i : I) (repeats : Repeats) (name : List ℕ) (seen : Seen)
    (old : List CollectionFile) where
  -- after some was met: what waits leads on to what the name leads to
  abbrev pub LeadsOn : (named : Bool) → (waiting : List CollectionFile) → SoFar
      → (kept : List CollectionFile) → Bool → Type 0
  LeadsOn named waiting before kept some =
      (last : SoFar) (more : List CollectionFile) (games : Bool)
      → AreMet opener i repeats named (reverse waiting) before last more games
      → (own : List CollectionFile) × (kept ++ more ≡ old ++ own)
      × LeadsTo opener i repeats name seen last.files own (some || games)

  -- the last one that waited was looked at
  pub goes_on : (named : Bool) (popped waiting after kept now inside : List CollectionFile)
      (file : CollectionFile) (before mid : SoFar) (fate : Fate) (some more : Bool)
      → waiting ≡ popped ++ file ∷ [] → LooksAt opener i repeats named file before mid inside fate
      → reverse after ≡ inside ++ reverse popped → now ≡ kept ++ kept_of file fate
      → more ≡ some || counts_as_game fate → LeadsOn named waiting before kept some
      → LeadsOn false after mid now more
  goes_on named popped waiting after kept now inside file before mid fate some more last_is looks stack
      now_is more_is leads_on = λ last files games are.
      let was : reverse waiting ≡ file ∷ reverse popped = grind (arith, reverse-append, last_is) in
      let (_, _, _, _, _, below, others, all, any) =
      met_in_turn opener i repeats inside (reverse popped) mid last files games (rw stack at are) in
      let (own, is, leads) = leads_on last (kept_of file fate ++ files) (counts_as_game fate || games)
      (rw was (met_next opener i repeats named file _ _ _ _ _ _ _ _ _ fate _ _ _ looks below others
      all any)) in (
        own,
        grind (arith, append_assoc, now_is, is),
        rw (more_is, or_assoc some (counts_as_game fate) games) leads,
      )

  -- nothing waits
  pub ended : (named : Bool) (waiting kept : List CollectionFile) (before : SoFar) (some : Bool)
      → waiting ≡ [] → LeadsOn named waiting before kept some
      → (own : List CollectionFile) × (kept ≡ old ++ own)
      × LeadsTo opener i repeats name seen before.files own some
  ended named waiting kept before some nothing leads_on =
      let (own, is, leads) = leads_on before [] false (rw nothing (none named before)) in
      (own, grind (arith, append-nil, is), rw (or-false some) at leads)

-- what names lead to, after one more of them
pub led_on : {I S P : Type 0} (opener : Opener I S) (i : I) (repeats : Repeats) (name_of : P → List ℕ)
    (paths : List P) (at : ℕ) (path : P) (seen now : Seen) (files own new : List CollectionFile)
    (report : List ℕ) (some : Bool) → at < length paths → path ≡ get_or paths at path
    → new ≡ files ++ own
    → AreLedTo opener i repeats (map name_of (take at paths)) seen files report
    → LeadsTo opener i repeats (name_of path) seen now own some
    → AreLedTo opener i repeats (map name_of (take (at + 1) paths)) now new (report
    ++ (if some then [] else after_name (utf8_lossy (name_of path)) (codes "no game files\n")))
led_on opener i repeats name_of paths at path seen now files own new report some within is new_is led
    one = rw (map_more name_of paths at path within, ← is, new_is)
    (one_more _ _ _ _ _ _ _ _ led one)
