use Rattle.gf_form.proofs.Common.{◌≡◌, take, AllByRecursion, IsPlain, reduced_label, shown}
use Rattle.gf_form.proofs.strategies.label_text.write_label.Given as goal

abbrev pub invariant-loop-place : goal.invariant-loop-place
invariant-loop-place l =
    (l.text.items ≡ reduced_label (take l.place (shown l.relevant l.strategy)))
    × AllByRecursion IsPlain l.text.items
