use Rattle.gf_form.proofs.Common.{ltb-false, ltb-true, nat_lt, Visit, arith, rules}
use Rattle.std.proofs.lemmas.List.Sorted.{IsPartitionPoint-from_clause, IsPartitionedBy-ltb}
use Rattle.gf_form.proofs.reduced.level.count_below.Goals as goal

pub returns : goal.returns
returns c =
    let parts = IsPartitionPoint-from_clause (λ (v : Visit). nat_lt v.demands c.args.number)
    c.args.visits.now c.partition_point.result c.partition_point.ensures.partitioned
    (IsPartitionedBy-ltb (λ (v : Visit). v.demands) c.args.visits.now c.args.number c.requires)
    (λ a r f k. search rules) in record {
      bound = c.partition_point.ensures.bound;
      below = λ k d less. ltb-true _ _ (parts.0 k d (omega arith) less);
      above = λ k d past less. ltb-false _ _ (parts.1 k d past less);
    }
