use Rattle.std.proofs.Common.{◌∙◌, List, ap, arith, filter, length, map, not, sym, ℕ}
use Rattle.std.proofs.lemmas.List.{length-map}
use Rattle.std.specs.List.{list_any}
use Rattle.gf_jobs.specs.Duplicates.{groups_text, has_two}
use Rattle.gf_jobs.specs.inner.KeptNames.{KeptNames}
use Rattle.gf_jobs.proofs.GroupsText.{added, at_end, passed}
use Rattle.gf_jobs.proofs.collections.groups.Groups.text.Goals as goal

pub loop-group-preserved : goal.loop-group-preserved
loop-group-preserved c =
    let are = ap (λ (kept : KeptNames). kept.names) (sym c.self.view_is)
    ∙ ap (λ l. map (λ group. map (λ name. name.now) group.items) l)
    (sym c.deref-group-items.ensures.value) in
    let size = length-map c.group-item.result.items (λ name. name.now) in
    added _ _ _ _ are _ _ c.loop-group-test.true c.group-item.is _ _ c.loop-group.invariant
    (omega (arith, c.if-len-lt2.false, c.len.ensures, size, c.group-item.result.ok.0)) _
    (rw c.as_slice.ensures.value at c.in_ok-push_group.ensures)

pub loop-group-preserved-then-len-lt2 : goal.loop-group-preserved-then-len-lt2
loop-group-preserved-then-len-lt2 c =
    let are = ap (λ (kept : KeptNames). kept.names) (sym c.self.view_is)
    ∙ ap (λ l. map (λ group. map (λ name. name.now) group.items) l)
    (sym c.deref-group-items.ensures.value) in
    let size = length-map c.group-item.result.items (λ name. name.now) in
    passed _ _ _ _ are _ _ c.loop-group-test.true c.group-item.is _ _ c.loop-group.invariant
    (omega (arith, c.if-len-lt2.true, c.len.ensures, size, c.group-item.result.ok.0))

pub returns : goal.returns
returns c = λ files is.
    let are = ap (λ (kept : KeptNames). kept.names) (sym c.self.view_is)
    ∙ ap (λ l. map (λ group. map (λ name. name.now) group.items) l)
    (sym c.deref-group-items.ensures.value) in
    let done = at_end _ _ _ _ _ c.loop-group.invariant (omega (
      arith,
      c.loop-group-test.false,
      ap (λ (l : List (List (List ℕ))). length l) are,
      length-map c.deref-group-items.result.now (λ group. map (λ name. name.now) group.items),
    )) in (
      c.answer_with.ensures.value ∙ done.0
          ∙ ap (λ (gs : List (List (List ℕ))). not (list_any has_two gs)) is.names,
      c.answer_with.ensures.text ∙ done.1
          ∙ ap (λ (gs : List (List (List ℕ))). groups_text c.args.end (filter has_two gs)) is.names,
    )
