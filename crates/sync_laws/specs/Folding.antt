-- The rows that a client's own rule makes of the changes of an object, one after another.
use Rattle.std.specs.Prelude.{◌≡◌, ℕ, ◌≤◌, ◌⊎◌, true, List, [], filter, fold}
use Rattle.ofx_types.specs.SyncForm.{object_family}
use Rattle.ofx_types.specs.declared.number.ObjectId.{ObjectId}
use Rattle.ofx_types.specs.declared.transfer.Family.{Family}
use Rattle.bank_model.specs.declared.entry.Entry.{Entry}
use Rattle.bank_model.specs.Objects.{history_of, newest}
use Rattle.bank_model.specs.Stores.{Row, Store, changed, is_up_to}

unfoldable pub rows_up_to : Family → ObjectId → ℕ → List Entry → List Row
rows_up_to family object token entries =
    fold (λ (rows : List Row) (entry : Entry). changed family rows entry.change) [] (filter (is_up_to token) (history_of object entries))

-- A store is marked lost, or holds the rows that this rule makes of the object's entries up to its token.
abbrev pub IsFolded : Store → ObjectId → List Entry → Type 0
IsFolded store object entries =
    (store.is_lost ≡ true)
    ⊎ ((store.token ≤ newest object entries) × (store.rows ≡ rows_up_to (object_family store.name) object store.token entries))
