use Rattle.std.proofs.Common.{◌≡◌, map}
use Rattle.std.specs.Prelude.{encode_utf8_all}
use Rattle.std.specs.String.{string_bytes}
use Rattle.gf_explain.specs.Shown.{shown_character}
use Rattle.gf_explain.proofs.shown.shown_name.Given as goal

-- the characters so far are shown
abbrev pub invariant-loop-character : goal.invariant-loop-character
invariant-loop-character l = string_bytes l.text ≡ encode_utf8_all (map shown_character l.yielded)
