use Rattle.std.proofs.Common.{ltb, ◌∙◌, arith, rules}
use Rattle.std.proofs.lemmas.List.{take_rest}
use Rattle.std.proofs.lemmas.List.Sorted.{IsPartitionPoint-from_clause}
use Rattle.bank_transfers.specs.declared.waiting.Made.{Made}
use Rattle.bank_transfers.proofs.ListedLemmas.{second_part}
use Rattle.bank_transfers.proofs.MadeLemmas.{parted_above}
use Rattle.bank_transfers.proofs.waiting.from.Goals as goal

pub returns : goal.returns
returns c =
    let made = c.args.made.now in
    let model = c.args.model in
    let parted = parted_above made model c.requires in
    let point = IsPartitionPoint-from_clause (λ (m : Made). ltb model m.model.0) made c.partition_point-first.result c.partition_point-first.ensures.partitioned parted (λ a r q k. search rules) in
    take_rest made c.partition_point-first.result
    ∙ second_part (λ (m : Made). ltb model m.model.0) made c.partition_point-first.result (λ k d less within. point.0 k d (omega arith) less) (λ k d more within. point.1 k d more within)
