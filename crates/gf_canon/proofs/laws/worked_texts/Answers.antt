use Rattle.gf_canon.proofs.Common.{refl}
use Rattle.gf_fraction.specs.NumberText.{number_text}
use Rattle.std.specs.Fmt.{digits}
use Rattle.gf_canon.proofs.laws.worked_texts.Goals as goal

pub returns-clause-five : goal.returns-clause-five
unfolding digits number_text
returns-clause-five c = refl

pub returns-clause-bonus : goal.returns-clause-bonus
unfolding digits number_text
returns-clause-bonus c = refl
