use Rattle.std.proofs.lemmas.List.{nil_from_length}
use Rattle.gf_tree.proofs.Common.{refl}
use Rattle.gf_tree.specs.inner.Hashers.{number_write}
use Rattle.gf_tree.proofs.hashers.NumberHasherHasher.write.Goals as goal

pub returns-in-Some : goal.returns-in-Some
unfolding number_write
returns-in-Some c = rw (c.in-Some.ensures.cases.0, c.write.ensures, c.write_u8.ensures) refl

pub returns-in_default : goal.returns-in_default
unfolding number_write
returns-in_default c = rw (nil_from_length c.args.bytes.now c.in_default.ensures.cases) refl
