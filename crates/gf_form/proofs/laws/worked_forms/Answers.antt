use Rattle.gf_form.proofs.Common.{refl}
use Rattle.std.specs.Fmt.{digits}
use Rattle.gf_form.proofs.lemmas.form.SameForms as by
use Rattle.gf_form.proofs.laws.worked_forms.Goals as goal

pub returns : goal.returns
unfolding digits
returns c = record {
  games = by.worked_games;
  plays = refl;
  form = by.form_of_bonus;
  fits = by.equal _ _ refl refl refl;
  overflows = by.no_values.0;
  fits_at_zero = by.equal _ _ refl refl refl;
  overflows_at_zero = by.no_values.1;
  fits_at_last = by.equal _ _ refl refl refl;
  overflows_before = by.no_values.2;
  full = by.form_of_ending;
  reduced = by.reduced_of_ending;
  forgetful = refl;
  contradicted = refl;
}
