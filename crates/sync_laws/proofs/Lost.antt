-- Where a store is marked lost.
use Rattle.std.proofs.Common.{◌≡◌, ℕ, ◌≤◌, inl, inr, Bool, true, false, ◌||◌, cond, nat_lt, List, [], Some, refl, sym, ap, ◌∙◌}
use Rattle.std.specs.Prelude.{unwrap_or}
use Rattle.std.proofs.lemmas.Bool.{true≢false, le-ltb}
use Rattle.ofx_types.specs.SyncForm.{object_family}
use Rattle.ofx_types.specs.declared.number.ObjectId.{ObjectId}
use Rattle.ofx_types.specs.declared.number.UserId.{UserId}
use Rattle.ofx_types.specs.declared.number.Moment.{Moment}
use Rattle.ofx_types.specs.declared.sync.SyncKind.{SyncKind}
use Rattle.ofx_types.specs.declared.sync.SyncKind.TheVariants.{After, TokenOnly, Refresh}
use Rattle.ofx_types.specs.declared.sync.SyncAsk.{SyncAsk}
use Rattle.ofx_types.specs.declared.sync.SyncReply.{SyncReply}
use Rattle.ofx_types.specs.Wire.{wire_sync}
use Rattle.bank_model.specs.declared.entry.Entry.{Entry}
use Rattle.bank_model.specs.declared.setup.Setup.{Setup}
use Rattle.bank_model.specs.declared.event.State.{State}
use Rattle.bank_model.specs.Objects.{object_named, newest, floor}
use Rattle.bank_model.specs.Sync.{token_of, is_lost_at, is_lost, sync_on, sync_answer}
use Rattle.bank_model.specs.Stores.{Row, Store, applied, with_rows, marked_lost, taken}
use Rattle.sync_laws.specs.Folding.{IsFolded}
use Rattle.sync_laws.specs.SyncRound.{store_after}

marked : (store : Store) (token : ℕ) (rows : List Row) (lost : Bool) → (cond lost (marked_lost store) (with_rows store token rows)).is_lost ≡ lost
marked store token rows true = refl
marked store token rows false = refl

pub lost_after : (store : Store) (text : List ℕ) (reply : SyncReply) → (taken store (After text) reply).is_lost ≡ reply.lost
unfolding taken
lost_after store text reply = marked store (unwrap_or (token_of reply.token) 0) (applied (object_family store.name) store.rows reply.replies) reply.lost

pub lost_refresh : (store : Store) (reply : SyncReply) → (taken store Refresh reply).is_lost ≡ reply.lost
unfolding taken
lost_refresh store reply = marked store (unwrap_or (token_of reply.token) 0) (applied (object_family store.name) [] reply.replies) reply.lost

pub same_token_only : (store : Store) (reply : SyncReply) → taken store TokenOnly reply ≡ store
unfolding taken
same_token_only store reply = refl

-- ---- what the bank says

pub answer_named : (setup : Setup) (S : State) (user : UserId) (at : Moment) (ask : SyncAsk) (object : ObjectId) → object_named setup user ask.object ≡ Some object → sync_answer setup S user at ask ≡ sync_on setup S user at ask (Some object)
unfolding sync_answer
answer_named setup S user at ask object named = ap (sync_on setup S user at ask) named

pub reply_lost : (setup : Setup) (S : State) (user : UserId) (at : Moment) (ask : SyncAsk) (object : ObjectId) → object_named setup user ask.object ≡ Some object → (sync_answer setup S user at ask).reply.lost ≡ is_lost setup.window object S.entries ask.kind
unfolding sync_on
reply_lost setup S user at ask object named = ap (λ answer. answer.reply.lost) (answer_named setup S user at ask object named)

pub refresh_kept : (window : ℕ) (object : ObjectId) (entries : List Entry) → is_lost window object entries Refresh ≡ false
unfolding is_lost
refresh_kept window object entries = refl

-- a store that is right knows no token above the newest
pub token_low : (store : Store) (object : ObjectId) (entries : List Entry) → store.is_lost ≡ false → IsFolded store object entries → store.token ≤ newest object entries
token_low store object entries kept (inl lost) = absurd (true≢false (sym lost ∙ kept))
token_low store object entries kept (inr right) = right.0

lost_at_floor : (window : ℕ) (object : ObjectId) (entries : List Entry) (text : List ℕ) (token : ℕ) → token_of text ≡ Some token → token ≤ newest object entries → is_lost window object entries (After text) ≡ nat_lt token (floor window object entries)
unfolding is_lost
lost_at_floor window object entries text token read low =
    ap (is_lost_at window object entries) read
    ∙ ap (λ (b : Bool). b || nat_lt token (floor window object entries)) (le-ltb (newest object entries) token low)

pub lost_below_floor : (setup : Setup) (S : State) (user : UserId) (at : Moment) (ask : SyncAsk) (object : ObjectId) (store : Store) (text : List ℕ) → object_named setup user ask.object ≡ Some object → ask.kind ≡ After text → token_of text ≡ Some store.token → store.token ≤ newest object S.entries → (store_after setup S user at ask store).is_lost ≡ nat_lt store.token (floor setup.window object S.entries)
lost_below_floor setup S user at ask object store text named kind read low =
    ap (λ (k : SyncKind). (taken store k (wire_sync (sync_answer setup S user at ask).reply)).is_lost) kind
    ∙ lost_after store text (wire_sync (sync_answer setup S user at ask).reply)
    ∙ reply_lost setup S user at ask object named
    ∙ ap (is_lost setup.window object S.entries) kind
    ∙ lost_at_floor setup.window object S.entries text store.token read low
