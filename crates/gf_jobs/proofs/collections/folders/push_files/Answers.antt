use Rattle.std.proofs.Common.{arith, codes, refl, sym, ◌∙◌, ◌≢◌}
use Rattle.std.proofs.lemmas.Bool.{false≢true}
use Rattle.std.proofs.lemmas.Bool.Decides.{Decides-eqb}
use Rattle.std.proofs.lemmas.Slice.Eq.{slice_eq-Decides}
use Rattle.gf_jobs.specs.LedTo.LeadsTo.{is_path, is_standard}
use Rattle.gf_jobs.proofs.Walked.{ended, goes_on}
use Rattle.gf_jobs.proofs.collections.folders.push_files.Goals as goal

pub returns-then-eq : goal.returns-then-eq
returns-then-eq g c = (
  _,
  c.in_ok-push.ensures.items,
  is_standard ((slice_eq-Decides Decides-eqb c.args.path.now c.as_slice.result.now _ c.eq.ensures).0
      c.if-eq.true ∙ c.as_slice.ensures) refl refl refl,
)

pub loop-turn-init : goal.loop-turn-init
loop-turn-init g c =
    let other : c.args.path.now ≢ codes "-"
    = λ is. false≢true (sym c.if-eq.false ∙ (slice_eq-Decides Decides-eqb c.args.path.now
    c.as_slice.result.now _ c.eq.ensures).1 (is ∙ sym c.as_slice.ensures)) in
    λ last more games are. (
      more,
      refl,
      is_path c.in_ok-file_in.field-0 _ last other c.in_ok-file_in.ensures c.new.ensures.empty refl
          (rw c.in_ok-waiting.ensures.items at are) refl,
    )

pub loop-turn-preserved : goal.loop-turn-preserved
loop-turn-preserved g c =
    let (inside, looked, stack) = c.in_ok-fate.ensures in
    let kept = c.in_ok-has_games.ensures in
    let at = c.loop-turn in
    goes_on g.I.Inputs.opener c.args.inputs.now c.args.repeats c.args.path.now
    c.args.so_far.now.files c.args.files.now.items at.is_named c.pop.new.self.items at.waiting.items
    c.look_at.new.waiting.items at.files.items c.keep.new.files.items inside c.in-Some.file _ _
    c.in_ok-fate.fate at.has_games _ c.in-Some.ensures.items looked stack kept.0 (rw kept.1 refl)
    at.invariant

pub returns-in_default : goal.returns-in_default
returns-in_default g c =
    ended g.I.Inputs.opener c.args.inputs.now c.args.repeats c.args.path.now
    c.args.so_far.now.files c.args.files.now.items c.loop-turn.is_named c.loop-turn.waiting.items _ _
    _ (grind (arith, c.in_default.ensures.cases, c.in_default.ensures.items)) c.loop-turn.invariant
