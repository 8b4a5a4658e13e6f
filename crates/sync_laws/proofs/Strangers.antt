-- What is reported of an account that isn't the user's.
use Rattle.std.proofs.Common.{◌≡◌, ℕ, Bool, true, cond, List, [], None, ap, ◌∙◌}
use Rattle.std.specs.Prelude.{unwrap_or}
use Rattle.ofx_types.specs.SyncForm.{object_family}
use Rattle.ofx_types.specs.declared.number.UserId.{UserId}
use Rattle.ofx_types.specs.declared.number.Moment.{Moment}
use Rattle.ofx_types.specs.declared.sync.SyncKind.{SyncKind}
use Rattle.ofx_types.specs.declared.sync.SyncKind.TheVariants.{After, TokenOnly, Refresh}
use Rattle.ofx_types.specs.declared.sync.SyncAsk.{SyncAsk}
use Rattle.ofx_types.specs.declared.sync.SyncReply.{SyncReply}
use Rattle.ofx_types.specs.Wire.{wire_sync}
use Rattle.bank_model.specs.declared.setup.Setup.{Setup}
use Rattle.bank_model.specs.declared.event.State.{State}
use Rattle.bank_model.specs.Objects.{object_named}
use Rattle.bank_model.specs.Sync.{token_of, sync_on, sync_answer}
use Rattle.bank_model.specs.Stores.{Store, applied, with_rows, marked_lost, taken}
use Rattle.sync_laws.specs.SyncRound.{store_after, bank_after}
use Rattle.sync_laws.proofs.Lost.{same_token_only}

answer_stranger : (setup : Setup) (S : State) (user : UserId) (at : Moment) (ask : SyncAsk) → object_named setup user ask.object ≡ None → sync_answer setup S user at ask ≡ sync_on setup S user at ask None
unfolding sync_answer
answer_stranger setup S user at ask none = ap (sync_on setup S user at ask) none

pub stranger_reported : (setup : Setup) (S : State) (user : UserId) (at : Moment) (ask : SyncAsk) → object_named setup user ask.object ≡ None → (sync_answer setup S user at ask).reply.lost ≡ true
unfolding sync_on
stranger_reported setup S user at ask none = ap (λ answer. answer.reply.lost) (answer_stranger setup S user at ask none)

pub stranger_bank : (setup : Setup) (S : State) (user : UserId) (at : Moment) (ask : SyncAsk) → object_named setup user ask.object ≡ None → bank_after setup S user at ask ≡ S
unfolding sync_on
stranger_bank setup S user at ask none = ap (λ answer. answer.after) (answer_stranger setup S user at ask none)

lost_by_token : (store : Store) (text : List ℕ) (reply : SyncReply) → reply.lost ≡ true → taken store (After text) reply ≡ marked_lost store
unfolding taken
lost_by_token store text reply lost =
    ap (λ (b : Bool). cond b (marked_lost store) (with_rows store (unwrap_or (token_of reply.token) 0) (applied (object_family store.name) store.rows reply.replies))) lost

lost_by_refresh : (store : Store) (reply : SyncReply) → reply.lost ≡ true → taken store Refresh reply ≡ marked_lost store
unfolding taken
lost_by_refresh store reply lost =
    ap (λ (b : Bool). cond b (marked_lost store) (with_rows store (unwrap_or (token_of reply.token) 0) (applied (object_family store.name) [] reply.replies))) lost

pub stranger_after : (setup : Setup) (S : State) (user : UserId) (at : Moment) (ask : SyncAsk) (store : Store) (text : List ℕ) → object_named setup user ask.object ≡ None → ask.kind ≡ After text → store_after setup S user at ask store ≡ marked_lost store
stranger_after setup S user at ask store text none kind =
    ap (λ (k : SyncKind). taken store k (wire_sync (sync_answer setup S user at ask).reply)) kind
    ∙ lost_by_token store text (wire_sync (sync_answer setup S user at ask).reply) (stranger_reported setup S user at ask none)

pub stranger_refresh : (setup : Setup) (S : State) (user : UserId) (at : Moment) (ask : SyncAsk) (store : Store) → object_named setup user ask.object ≡ None → ask.kind ≡ Refresh → store_after setup S user at ask store ≡ marked_lost store
stranger_refresh setup S user at ask store none kind =
    ap (λ (k : SyncKind). taken store k (wire_sync (sync_answer setup S user at ask).reply)) kind
    ∙ lost_by_refresh store (wire_sync (sync_answer setup S user at ask).reply) (stranger_reported setup S user at ask none)

pub token_only_same : (setup : Setup) (S : State) (user : UserId) (at : Moment) (ask : SyncAsk) (store : Store) → ask.kind ≡ TokenOnly → store_after setup S user at ask store ≡ store
token_only_same setup S user at ask store kind =
    ap (λ (k : SyncKind). taken store k (wire_sync (sync_answer setup S user at ask).reply)) kind
    ∙ same_token_only store (wire_sync (sync_answer setup S user at ask).reply)
