use Rattle.gf_canon.proofs.Common.{pointwise, tokens_of, rules, nat_eq, arith, codes, false, ◌≡◌}
use Rattle.gf_canon.proofs.Common.{IsWithoutFormat}
use Rattle.gf_canon.proofs.lemmas.files.Formats.{without_format, other_word}
use Rattle.gf_canon.proofs.lemmas.files.Refused.{refused_at_first}
use Rattle.gf_canon.proofs.kind.kind_of.Goals as goal

-- no bare token stands at the front
pub returns-in_default-clause-refused : goal.returns-in_default-clause-refused
returns-in_default-clause-refused c =
    let fault = c.refusal.result in
    let found : IsWithoutFormat fault.why c.args.input.now fault.span =
    search (rules, without_format) in
    refused_at_first c.args.input.now fault found

-- a bare token that is another word
pub returns-clause-refused : goal.returns-clause-refused
returns-clause-refused c =
    let word = c.in-Some.first.bytes.now in
    let tree : pointwise nat_eq word (codes "EFG") ≡ false =
    cc (c.as_slice.ensures, c.eq.ensures, c.if-eq.false) in
    let table : pointwise nat_eq word (codes "NFG") ≡ false =
    cc (c.as_slice-2.ensures, c.eq-2.ensures, c.if-eq-2.false) in
    let none = other_word word (tokens_of c.bare.new.self.ahead) tree table in
    let found = without_format c.args.input.now c.new-tokens.result.ahead
    c.new-tokens.ensures.spelled (rw c.in-Some.ensures.next none) in
    let fault = c.at.result in
    let other : IsWithoutFormat fault.why c.args.input.now fault.span =
    grind (arith, c.in-Some.ensures.next, c.at.ensures) in
    refused_at_first c.args.input.now fault other
