use Rattle.std.proofs.Common.{leb, leb-true, leb-false, rules, arith}
use Rattle.std.proofs.lemmas.List.Sorted.{IsPartitionPoint-from_clause, IsPartitionedBy-leb}
use Rattle.node_aggregate.proofs.Rising.{Cuts, no_later, node_at_cut, non_decreasing, some_before}
use Rattle.node_aggregate.proofs.places.node_of.Goals as goal

cut : (c : goal.After-partition_point) → Cuts c.args.starts.now c.args.minute c.partition_point.result
cut c =
    let parted = IsPartitionedBy-leb (λ s. s) _ c.args.minute (non_decreasing c.args.starts.now c.requires) in
    let point = IsPartitionPoint-from_clause (λ s. leb s c.args.minute) _ _ c.partition_point.ensures.partitioned parted (λ a r q k. search rules) in
    record {
      no_more = c.partition_point.ensures.bound;
      before = λ k below. leb-true _ _ (point.0 k 0 (omega arith) below);
      after = λ k above within. leb-false _ _ (point.1 k 0 above within);
    }

pub overflow_sub-result : goal.overflow_sub-result
overflow_sub-result c = some_before c.args.starts.now c.args.minute c.partition_point.result c.requires (cut c)

pub overflow_cast-result : goal.overflow_cast-result
overflow_cast-result c = omega (arith, no_later c.args.starts.now c.args.minute c.partition_point.result c.requires (cut c))

pub returns : goal.returns
returns c = node_at_cut c.args.starts.now c.args.minute c.partition_point.result c.requires (cut c)
