use Rattle.gf_nfg.proofs.Common.{rules, arith, get_or, []}
use Rattle.gf_nfg.proofs.lemmas.tables.Strategies.{IsOwn, has_list, own_is, own_label, within_lists}
use Rattle.gf_nfg.proofs.table.strategies.StrategyLists.label.Goals as goal

pub piece_at-own-requires : goal.piece_at-own-requires
piece_at-own-requires c = search (rules, within_lists, has_list)

own : (c : goal.After-struct_known-1) → IsOwn c.self.inside.labels
    (get_or c.args.self.now c.args.at []) c.piece_at-own.result.start c.piece_at-own.result.end
own c = search (rules, own_is, has_list)

pub overflow_add-own : goal.overflow_add-own
overflow_add-own c = grind (arith, (own_label (own c) c.requires).0)

pub label-requires : goal.label-requires
label-requires c = grind (arith, (own_label (own c) c.requires).0, (own c).within)

pub returns : goal.returns
returns c = grind (arith, own, own_is, has_list, own_label)
