use Rattle.std.proofs.Common.{◌≡◌, ◌++◌, length, take}
use Rattle.std.specs.List.{flat_map}
use Rattle.record_fields.specs.FieldCoding.{u64_bytes}
use Rattle.client_store.specs.RowForm.{seen}
use Rattle.client_saved.specs.Coding.{row_bytes}
use Rattle.client_saved.proofs.store.put_rows.Given as goal

abbrev pub invariant-loop-row : goal.invariant-loop-row
invariant-loop-row l = record {
  bytes : l.out.items ≡ (l.fn.out.items ++ u64_bytes (length l.rows)) ++ flat_map (λ row. row_bytes (seen row)) (take l.row-index l.rows);
}
