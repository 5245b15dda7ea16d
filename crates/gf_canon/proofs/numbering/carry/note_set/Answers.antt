use Rattle.gf_canon.proofs.Common.{number_of_set}
use Rattle.gf_canon.proofs.lemmas.numbers.Noted.{set_noted}
use Rattle.gf_canon.proofs.numbering.carry.note_set.Goals as goal

pub returns-in-Ok : goal.returns-in-Ok
returns-in-Ok c = λ key.
    set_noted (number_of_set c.args.sets.now) (number_of_set c.insert.new.self) c.in-Some-Some.key
    (c.in-Some-Some.field-0-0-1, c.in-Some-Some.number) _ _ c.in-Some-Some.ensures
    c.in-Some-Some.ensures' key (c.in-Ok.ensures.updates.0 (key.player, key.number))
