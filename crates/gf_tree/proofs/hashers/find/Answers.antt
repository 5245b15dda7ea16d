use Rattle.gf_tree.proofs.Common.{sym, ◌∙◌}
use Rattle.gf_tree.proofs.lemmas.stores.Keys.{stands}
use Rattle.gf_tree.proofs.hashers.find.Goals as goal

pub returns-then-eq : goal.returns-then-eq
returns-then-eq g c =
    let found = c.in-Some in
    sym (stands g.K.PartialEq.eq g.met.K.Eq.laws c.args.map.now.entries c.args.likely c.args.key.now
    found.there.now found.field-0-1.now c.len-len.ensures.unique (sym found.ensures.entry)
    (sym c.eq.ensures ∙ c.if-eq.true))
