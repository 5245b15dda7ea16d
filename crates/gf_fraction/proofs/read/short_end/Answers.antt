use Rattle.std.proofs.Common.{◌≡◌, get_or, arith, refl}
use Rattle.gf_fraction.proofs.ShortNumbers.{first_and_more, decimal_completes, decimal_left}
use Rattle.gf_fraction.proofs.ShortNumbers.{ratio_completes, ratio_left, whole_completes}
use Rattle.gf_fraction.proofs.read.short_end.Goals as goal
use Rattle.gf_fraction.proofs.read.short_end.Goals.{in_default-via-then-text-lt1}
use Rattle.gf_fraction.proofs.read.short_end.Goals.{in_default-via-else-text-lt1+in_default-1}

pub returns-then-den-eq0 : goal.returns-then-den-eq0
returns-then-den-eq0 c =
    let text = c.args.text.now in
    let first : get_or text 0 0 ≡ 47 = omega arith in
    ratio_left c.args.num _ text _ _ (first_and_more text 47 (omega arith) first)
    c.word_digits-den.ensures c.if-den-eq0.true

pub returns-else-den-eq0 : goal.returns-else-den-eq0
returns-else-den-eq0 c =
    let text = c.args.text.now in
    let first : get_or text 0 0 ≡ 47 = omega arith in
    ratio_completes c.args.num c.word_digits-den.result.0 _ _ text _ _ (omega arith) (omega arith)
    (first_and_more text 47 (omega arith) first) c.word_digits-den.ensures (omega arith)
    c.lowest_words-num.ensures

pub returns-then-places-gt-WORD_PLACES : goal.returns-then-places-gt-WORD_PLACES
returns-then-places-gt-WORD_PLACES c =
    let text = c.args.text.now in
    let first : get_or text 0 0 ≡ 46 = omega arith in
    decimal_left c.args.num _ _ text _ _ (first_and_more text 46 (omega arith) first)
    c.word_digits-digits.ensures refl (omega arith)

pub returns-else-places-gt-WORD_PLACES : goal.returns-else-places-gt-WORD_PLACES
returns-else-places-gt-WORD_PLACES c =
    let text = c.args.text.now in
    let first : get_or text 0 0 ≡ 46 = omega arith in
    decimal_completes c.args.num c.word_digits-digits.result.0 _ _ _ text _ _ (omega arith)
    (first_and_more text 46 (omega arith) first) c.word_digits-digits.ensures refl (omega arith)
    c.lowest_decimal-num.ensures

pub returns-in_default : goal.returns-in_default
returns-in_default c = grind (arith, whole_completes)
