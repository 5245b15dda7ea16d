use Rattle.gf_nfg.proofs.Common.{arith, ◌∙◌, ap, label_of, length, length-map}
use Rattle.gf_nfg.proofs.lemmas.tables.Made.{AreKept, clones_are, lists_spelled, parts_of_labels}
use Rattle.gf_nfg.proofs.lemmas.tables.Rows.{counts_of_lists, some_in_lists}
use Rattle.gf_nfg.proofs.table.Table.new.Goals as goal

pub in_turn-requires : goal.in_turn-requires
in_turn-requires c =
    let lists = c.args.strategies.now in
    let counts = counts_of_lists label_of lists in
    let kept : AreKept c.args.rows.now c.in_ok-rows.rows.items =
    search (arith, clones_are, c.in_ok-rows.ensures) in
    rw (c.in_ok-frame.ensures, c.in_ok-strategies.ensures) (parts_of_labels c.args.title
    c.args.comment c.args.players.now _ c.in_ok-rows.rows.items
    (length-map lists _ ∙ c.requires.one_list_each)
    (some_in_lists label_of lists c.requires.some_strategy)
    (rw counts c.requires.profiles) kept.1
    (rw counts (ap length kept.0 ∙ c.requires.rows)) (lists_spelled lists))
