-- What is shown in place of a character is none that a terminal obeys.
use Rattle.std.proofs.Common.{◌≡◌, ℕ, Bool, true, false, if◌then◌else◌, refl}
use Rattle.ucd_props.specs.Binary.{is_bidi_control}
use Rattle.ucd_props.specs.Ranges.{bidi_control_ranges}
use Rattle.ucd_table.specs.Rows.{in_ranges}
use Rattle.gf_explain.specs.Shown.{is_obeyed, question_mark, shown_character}

pub of_space : is_obeyed 32 ≡ false
unfolding is_bidi_control bidi_control_ranges in_ranges
of_space = refl

of_question_mark : is_obeyed question_mark ≡ false
unfolding is_bidi_control bidi_control_ranges in_ranges
of_question_mark = refl

of_chosen : (is : Bool) (c : ℕ) → is_obeyed c ≡ is
    → is_obeyed (if is then question_mark else c) ≡ false
of_chosen true c obeyed = of_question_mark
of_chosen false c other = other

pub of_shown : (c : ℕ) → is_obeyed (shown_character c) ≡ false
of_shown c = of_chosen (is_obeyed c) c refl
