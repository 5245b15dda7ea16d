use Rattle.gf_tree.proofs.Common.{sym, ap, ◌∙◌, option_map, arith, ℕ}
use Rattle.gf_tree.specs.declared.game.outcomes.StoredOutcome.{StoredOutcome}
use Rattle.gf_tree.proofs.lemmas.stores.OutcomesStored.{number_at}
use Rattle.std.specs.Map.Iter.{deref_pair}
use Rattle.gf_tree.proofs.game.outcomes.Outcomes.at.Goals as goal

pub returns-in-Some : goal.returns-in-Some
returns-in-Some c =
    let o = c.self.inside in
    let entry = ap (option_map deref_pair) (sym c.in-Some.is) ∙ c.get_index.ensures.entry in
    ap (option_map (λ (e : ℕ × StoredOutcome). e.0)) entry
    ∙ sym (number_at o.entries.entries o.payoffs.items o.from c.args.self.now c.self.view_is c.args.i
    (omega (arith, c.if-i-eq0.false)))

pub returns-in-None : goal.returns-in-None
returns-in-None c =
    let o = c.self.inside in
    let entry = ap (option_map deref_pair) (sym c.in-None.is) ∙ c.get_index.ensures.entry in
    ap (option_map (λ (e : ℕ × StoredOutcome). e.0)) entry
    ∙ sym (number_at o.entries.entries o.payoffs.items o.from c.args.self.now c.self.view_is c.args.i
    (omega (arith, c.if-i-eq0.false)))
