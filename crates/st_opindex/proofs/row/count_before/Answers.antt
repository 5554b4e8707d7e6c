use Rattle.std.proofs.Common.{ltb, rules}
use Rattle.std.proofs.lemmas.List.Sorted.{IsPartitionPoint-from_clause, IsPartitionedBy-ltb}
use Rattle.st_base.proofs.ListLemmas.{count_passing}
use Rattle.st_opindex.proofs.KeyLemmas.{Ascend-rises}
use Rattle.st_opindex.proofs.row.count_before.Goals as goal

pub returns : goal.returns
returns g c =
    let items = c.args.items.now in
    let place = c.args.place in
    let split = IsPartitionPoint-from_clause (λ held. ltb held.0 place) items c.partition_point.result c.partition_point.ensures.partitioned
    (IsPartitionedBy-ltb (λ held. held.0) items place (Ascend-rises items c.requires)) (λ a r f' k. search rules) in
    record {
      ascends = c.requires;
      count = count_passing (λ held. ltb held.0 place) items c.partition_point.result c.partition_point.ensures.bound split.0 split.1;
    }
