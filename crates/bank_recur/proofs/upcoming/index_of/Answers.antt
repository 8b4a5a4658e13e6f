use Rattle.std.proofs.lemmas.List.Sorted.{IsPartitionPoint-from_clause}
use Rattle.std.proofs.Common.{rules}
use Rattle.bank_recur.specs.Spawning.{is_before_spawn}
use Rattle.bank_recur.specs.declared.spawn.Spawn.{Spawn}
use Rattle.bank_recur.proofs.UpcomingLemmas.{parted}
use Rattle.bank_recur.proofs.upcoming.index_of.Goals as goal

pub returns : goal.returns
returns c = record {
  within = c.partition_point.ensures.bound;
  parts = IsPartitionPoint-from_clause (λ (s : Spawn). is_before_spawn s c.args.next) c.args.spawns.now c.partition_point.result c.partition_point.ensures.partitioned (parted c.args.next c.args.spawns.now c.requires) (λ a r q k. search rules);
}
