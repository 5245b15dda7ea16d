use Rattle.gf_nfg.proofs.Common.{arith}
use Rattle.std.proofs.lemmas.List.{nil_from_length}
use Rattle.gf_nfg.proofs.lemmas.tables.Listed.{in_turn_listed, in_turn_means, lacking, parts_told}
use Rattle.gf_nfg.proofs.listed.ListedTable.told.Goals as goal

pub invariant_of-result : goal.invariant_of-result
invariant_of-result c =
    let none = nil_from_length _
    (lacking _ _ _ c.is_empty.ensures c.if-is_empty.true c.args.listing.kept.numbers.ok.0) in
    in_turn_listed _ _ _ c.requires.1 _ c.in_ok-frame.ensures none

pub returns-then-is_empty : goal.returns-then-is_empty
returns-then-is_empty c = λ bytes h.
    let none = nil_from_length _
    (lacking _ _ _ c.is_empty.ensures c.if-is_empty.true c.args.listing.kept.numbers.ok.0) in
    in_turn_means _ _ _ h _ c.in_ok-frame.ensures none

pub returns : goal.returns
returns c = λ bytes h. grind (arith, parts_told _ _ _ h)
