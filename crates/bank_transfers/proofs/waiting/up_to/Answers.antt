use Rattle.std.proofs.Common.{leb, arith, rules}
use Rattle.std.proofs.lemmas.List.Sorted.{IsPartitionPoint-from_clause}
use Rattle.bank_transfers.specs.declared.waiting.Made.{Made}
use Rattle.bank_transfers.proofs.ListedLemmas.{first_part}
use Rattle.bank_transfers.proofs.MadeLemmas.{parted_not_below}
use Rattle.bank_transfers.proofs.waiting.up_to.Goals as goal

pub returns : goal.returns
returns c =
    let made = c.args.made.now in
    let model = c.args.model in
    let parted = parted_not_below made model c.requires in
    let point = IsPartitionPoint-from_clause (λ (m : Made). leb model m.model.0) made c.partition_point-last.result c.partition_point-last.ensures.partitioned parted (λ a r q k. search rules) in
    first_part (λ (m : Made). leb model m.model.0) made c.partition_point-last.result (λ k d less within. point.0 k d (omega arith) less) (λ k d more within. point.1 k d more within)
