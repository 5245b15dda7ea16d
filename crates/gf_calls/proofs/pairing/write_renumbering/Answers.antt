use Rattle.std.proofs.Common.{List, refl, subst}
use Rattle.std.proofs.lemmas.Bool.{both_ways}
use Rattle.gf_calls.specs.Handed.{IsHandedOut}
use Rattle.gf_calls.specs.Paired.{different, paired}
use Rattle.gf_calls.specs.declared.pair.Pair.{Pair}
use Rattle.gf_calls.proofs.pairing.write_renumbering.Goals as goal

pub returns-in-Ok-true : goal.returns-in-Ok-true
returns-in-Ok-true c =
    let says = c.in-Ok-true.ensures.told in
    let same = c.in-Ok-true.field-0-test in
    let told = says.5 same c.new.ensures.items in
    paired says.0 says.1 says.2 says.3 (says.4.0 same) c.pairs_of_files.new.to.pairs.items
    (record { found = told.0; right = told.1; told = told.2 })
    (subst (λ (pairs : List Pair). IsHandedOut pairs c.args.out.now c.hand_out.new.out
    c.hand_out.new.needed c.hand_out.result) c.deref.ensures.value c.hand_out.ensures)
    refl

pub returns-in-Ok-false : goal.returns-in-Ok-false
returns-in-Ok-false c =
    let says = c.in-Ok-false.ensures.told in
    different says.0 says.1 says.2 says.3
    (λ same. both_ways c.in-Ok-false.field-0 c.in-Ok-false.field-0-test (says.4.1 same)) refl refl
