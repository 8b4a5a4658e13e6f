use Rattle.std.proofs.Common.{rules}
use Rattle.std.proofs.lemmas.List.Sorted.{IsPartitionPoint-from_clause}
use Rattle.bank_model.specs.Stores.{is_below}
use Rattle.client_store.specs.RowForm.{seen}
use Rattle.client_store.proofs.Located.{parted, located}
use Rattle.client_store.proofs.row_index.index.Goals as goal

-- the rows are parted by the id, since they are in order
pub returns-clause-index : goal.returns-clause-index
returns-clause-index c =
    let point = IsPartitionPoint-from_clause (λ row. is_below c.args.id (seen row)) _ _ c.partition_point.ensures.partitioned
    (parted c.args.family c.args.id 0 c.args.rows.now c.requires) (λ a r f called. search rules) in
    located c.args.id c.args.rows.now _ c.partition_point.ensures.bound point
