use Rattle.std.proofs.Common.{◌∙◌, map, sym}
use Rattle.std.proofs.lemmas.Iterator.{YieldsList-from_chars}
use Rattle.std.proofs.lemmas.Iterator.Consumers.{YieldsList-end}
use Rattle.std.proofs.lemmas.List.{map-id, map_push}
use Rattle.gf_explain.specs.Shown.{shown_character}
use Rattle.gf_explain.proofs.ShownTexts.{encodes-push}
use Rattle.gf_explain.proofs.shown.shown_name.Goals as goal

pub loop-character-preserved : goal.loop-character-preserved
loop-character-preserved c =
    let bytes = c.in_ok-push.ensures.bytes in
    let one = map_push shown_character c.loop-character.yielded c.in-Some.character in
    let all = encodes-push (map shown_character c.loop-character.yielded)
    (shown_character c.in-Some.character) in
    let before = c.loop-character.invariant in
    let is = c.shown_in_name.ensures in
    cc

pub returns : goal.returns
returns c =
    let end = YieldsList-end (YieldsList-from_chars c.args.name.now c.utf8.name cc)
    c.loop-character.yielded _ c.loop-character.yielded_by _ _ c.in-None.is
    c.next.ensures.steps in
    let all = sym (map-id c.loop-character.yielded) ∙ end.0 in
    let before = c.loop-character.invariant in
    cc
