use Rattle.std.proofs.Common.{◌≡◌, ◌++◌, ◌<◌, ◌^◌, length, take}
use Rattle.std.specs.List.{flat_map, AllByRecursion}
use Rattle.record_fields.specs.FieldCoding.{u64_bytes}
use Rattle.bank_model.specs.Stores.{Store}
use Rattle.client_saved.specs.Coding.{store_bytes}
use Rattle.client_saved.proofs.store.put_stores.Given as goal

abbrev pub invariant-loop-store : goal.invariant-loop-store
invariant-loop-store l = record {
  bytes : l.out.items ≡ (l.fn.out.items ++ u64_bytes (length l.stores)) ++ flat_map store_bytes (take l.store-index l.stores);
  counted : AllByRecursion (λ (store : Store). length store.rows < 2 ^ 64) (take l.store-index l.stores);
}
