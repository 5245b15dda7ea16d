use Rattle.gf_nfg.proofs.Common.{rules, arith}
use Rattle.gf_nfg.proofs.lemmas.tables.Places.{pays_there, place_there}
use Rattle.gf_nfg.proofs.lemmas.tables.Rows.{entries_counted}
use Rattle.gf_nfg.proofs.table.Table.payoffs.Goals as goal

pub place_of-requires-clause-within : goal.place_of-requires-clause-within
place_of-requires-clause-within c = search (rules, entries_counted)

pub row-requires : goal.row-requires
row-requires c = place_there _ c.self.inside.payoffs c.args.profile.now _ c.self.invariant
    c.in_ok-place_of.ensures

pub returns : goal.returns
returns c = grind (arith, pays_there)
