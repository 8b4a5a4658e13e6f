-- What taking a reply does to a store, once what was asked for is known.
use Rattle.std.specs.Prelude.{Bool, if◌then◌else◌, List, [], unwrap_or}
use Rattle.ofx_types.specs.SyncForm.{object_family}
use Rattle.ofx_types.specs.declared.sync.SyncReply.{SyncReply}
use Rattle.bank_model.specs.Sync.{token_of}
use Rattle.bank_model.specs.Stores.{Row, Store, applied, with_rows, marked_lost}

-- The changes are done to no rows where all was asked for, and else to those of the store.
abbrev pub changes_applied : Store → Bool → SyncReply → Store
changes_applied store all reply =
    with_rows store (unwrap_or (token_of reply.token) 0)
    (applied (object_family store.name) (if all then [] else store.rows) reply.replies)

abbrev pub history_applied : Store → Bool → SyncReply → Store
history_applied store all reply = if reply.lost then marked_lost store else changes_applied store all reply
