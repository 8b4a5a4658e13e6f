use Rattle.std.proofs.Common.{leb, leb-true, leb-false, sym, ◌∙◌, arith, rules}
use Rattle.std.proofs.lemmas.List.{take_rest}
use Rattle.std.proofs.lemmas.List.Sorted.{IsPartitionPoint-from_clause, IsPartitionedBy-leb}
use Rattle.bank_model.specs.declared.entry.Entry.{Entry}
use Rattle.token_window.proofs.WindowLemmas.{above_cut}
use Rattle.token_window.proofs.since.above.Goals as goal

pub returns-clause-above : goal.returns-clause-above
returns-clause-above c =
    let entries = c.args.entries.now in
    let token = c.args.token in
    let parted = IsPartitionedBy-leb (λ (entry : Entry). entry.number) entries token c.requires in
    let point = IsPartitionPoint-from_clause (λ (entry : Entry). leb entry.number token) entries c.partition_point-first.result c.partition_point-first.ensures.partitioned parted (λ a r q k. search rules) in
    take_rest entries c.partition_point-first.result
    ∙ sym (above_cut token entries c.partition_point-first.result (λ k d less within. leb-true _ _ (point.0 k d (omega arith) less)) (λ k d more within. leb-false _ _ (point.1 k d more within)))
