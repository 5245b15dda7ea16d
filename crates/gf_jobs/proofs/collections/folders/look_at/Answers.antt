use Rattle.std.proofs.Common.{arith, refl, rules, ◌≡◌, []}
use Rattle.gf_words.specs.declared.job.Input.{Input}
use Rattle.gf_jobs.specs.LedTo.Enters.{again, first}
use Rattle.gf_jobs.specs.declared.collections.file.CollectionFile.{CollectionFile}
use Rattle.gf_jobs.proofs.collections.folders.look_at.Goals as goal

pub returns-then-not-branch : goal.returns-then-not-branch
returns-then-not-branch g c =
    let file : c.args.file.now ≡ CollectionFile.Input (Input.File c.in-Input-File.path)
    = search rules in
    let at = rw c.as_str-path.ensures.value at c.look_at.ensures in
    let set = c.in_ok-insert-in-Folder.ensures in (
      [],
      rw file (
        _,
        at,
        rw c.in-Folder.is (
          refl,
          again (grind (arith, set.added, c.if-not-branch.true))
              (grind (arith, set.unchanged, c.if-not-branch.true)),
        ),
      ),
      refl,
    )

pub returns-in_ok-is_whole-in-Folder :
    goal.returns-in_ok-is_whole-in-Folder
returns-in_ok-is_whole-in-Folder g c =
    let file : c.args.file.now ≡ CollectionFile.Input (Input.File c.in-Input-File.path)
    = search rules in
    let at = rw c.as_str-path.ensures.value at c.look_at.ensures in
    let (names, inside, listed, are, stack) =
    rw c.as_str-path.ensures.value at c.in_ok-is_whole-in-Folder.ensures in
    let set = c.in_ok-insert-in-Folder.ensures in (
      inside,
      rw file (
        _,
        at,
        rw (c.in-Folder.is, c.kept_if.ensures) (
          refl,
          first names _ inside
              (grind (arith, set.added, c.if-not-branch.false)) set.keys listed are,
        ),
      ),
      stack,
    )
