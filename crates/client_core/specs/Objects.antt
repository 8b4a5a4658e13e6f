-- The stores that a client has of objects.
use Rattle.std.specs.Prelude.{Bool, List, [], ◌∷◌, ◌++◌, unwrap_or, if◌then◌else◌}
use Rattle.std.specs.List.{find}
use Rattle.ofx_types.specs.declared.sync.ObjectName.{ObjectName}
use Rattle.bank_model.specs.Stores.{Store, empty_store}
use Rattle.client_saved.specs.Bounds.{same_object, has_store}

abbrev pub is_of_object : ObjectName → Store → Bool
is_of_object object store = same_object store.name object

-- The store of an object. Where there is none nothing is known of it yet.
abbrev pub store_under : ObjectName → List Store → Store
store_under object stores = unwrap_or (find (is_of_object object) stores) (empty_store object)

-- A store that isn't there is made, after the others.
unfoldable pub with_store : ObjectName → List Store → List Store
with_store object stores = if has_store object stores then stores else stores ++ empty_store object ∷ []

abbrev pub with_stores : List ObjectName → List Store → List Store
with_stores [] stores = stores
with_stores (object ∷ more) stores = with_stores more (with_store object stores)
