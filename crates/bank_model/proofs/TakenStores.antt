-- A store that takes a reply keeps its name.
use Rattle.std.proofs.Common.{◌≡◌, true, false, cond, [], refl}
use Rattle.std.specs.Prelude.{unwrap_or}
use Rattle.ofx_types.specs.SyncForm.{object_family}
use Rattle.ofx_types.specs.declared.sync.SyncKind.{SyncKind}
use Rattle.ofx_types.specs.declared.sync.SyncKind.TheVariants.{After, TokenOnly, Refresh}
use Rattle.ofx_types.specs.declared.sync.SyncReply.{SyncReply}
use Rattle.bank_model.specs.Sync.{token_of}
use Rattle.bank_model.specs.Stores.{Store, applied, with_rows, marked_lost, taken}

pub name_taken : (store : Store) (kind : SyncKind) (reply : SyncReply) → (taken store kind reply).name ≡ store.name
unfolding taken
name_taken store TokenOnly reply = refl
name_taken store (After text) reply =
    elim reply.lost as (λ b. (cond b (marked_lost store) (with_rows store (unwrap_or (token_of reply.token) 0) (applied (object_family store.name) store.rows reply.replies))).name ≡ store.name) [
      | true ↦ refl
      | false ↦ refl
    ]
name_taken store Refresh reply =
    elim reply.lost as (λ b. (cond b (marked_lost store) (with_rows store (unwrap_or (token_of reply.token) 0) (applied (object_family store.name) [] reply.replies))).name ≡ store.name) [
      | true ↦ refl
      | false ↦ refl
    ]
