-- What contracts see of the rows of an object as they are held.
use Rattle.std.specs.Prelude.{◌≡◌, ℕ, zero, suc, Bool, true, false, List, [], ◌∷◌, Option, None, Some, if◌then◌else◌}
use Rattle.ofx_types.specs.declared.transfer.Family.{Family}
use Rattle.bank_model.specs.Stores as model
use Rattle.bank_model.specs.Stores.{has_id, is_below, model_if_named}
use Rattle.client_store.specs.declared.row.Row.{Row}
use Rattle.client_store.specs.RowForm.{seen}

-- The rows of an object of a family, and for how many more of them there is room.
pub record HeldRows : Type 0 where
  pub family : Family
  pub rows : List model.Row
  pub room : ℕ

-- The index of an id: each row before it is below the id, and the row at it, if any, isn't.
abbrev pub IsIndex : ℕ → List model.Row → ℕ → Type 0
IsIndex id [] zero = Unit {0}
IsIndex id [] (suc at) = ⊥
IsIndex id (row ∷ more) zero = is_below id row ≡ false
IsIndex id (row ∷ more) (suc at) = (is_below id row ≡ true) × IsIndex id more at

-- whether there is a row, and it has this id
abbrev pub is_named : ℕ → Option Row → Bool
is_named id None = false
is_named id (Some row) = has_id id (seen row)

-- the recurring transfer that made it, where it is a transfer of the id
abbrev pub model_in : ℕ → Option Row → ℕ
model_in id None = 0
model_in id (Some row) = model_if_named id 0 (seen row)

-- the row, where there is one and it has the id
abbrev pub row_in : ℕ → Option Row → Option Row
row_in id None = None
row_in id (Some row) = if has_id id (seen row) then Some row else None
