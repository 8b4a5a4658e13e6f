-- A store whose client takes the reply holds the rows up to the new token.
use Rattle.std.proofs.Common.{◌≡◌, ℕ, ◌≤◌, inl, inr, Bool, true, false, cond, List, [], ◌++◌, map, filter, codes, Option, Some, refl, sym, ap, ◌∙◌, subst, arith}
use Rattle.std.specs.Fmt.{decimal}
use Rattle.std.specs.Prelude.{unwrap_or}
use Rattle.std.proofs.lemmas.Bool.{true≢false}
use Rattle.ofx_types.specs.SyncForm.{object_family}
use Rattle.ofx_types.specs.Wire.{wire, wire_sync}
use Rattle.ofx_types.specs.declared.number.ObjectId.{ObjectId}
use Rattle.ofx_types.specs.declared.number.UserId.{UserId}
use Rattle.ofx_types.specs.declared.number.Moment.{Moment}
use Rattle.ofx_types.specs.declared.transfer.DeedReply.{DeedReply}
use Rattle.ofx_types.specs.declared.transfer.Family.{Family}
use Rattle.ofx_types.specs.declared.sync.SyncKind.{SyncKind}
use Rattle.ofx_types.specs.declared.sync.SyncKind.TheVariants.{After, Refresh}
use Rattle.ofx_types.specs.declared.sync.SyncAsk.{SyncAsk}
use Rattle.bank_model.specs.declared.entry.Entry.{Entry}
use Rattle.bank_model.specs.declared.setup.Setup.{Setup}
use Rattle.bank_model.specs.declared.event.State.{State}
use Rattle.bank_model.specs.SetupForm.{IsWithinLimits}
use Rattle.bank_model.specs.Objects.{object_named, history_of, newest}
use Rattle.bank_model.specs.Sync.{token_of, is_lost, is_above, entries_above, reply_with_change, reply_of_entry, present, history_replies, rejection, deeds_or_rejection, SyncAnswer, sync_on, sync_answer}
use Rattle.bank_model.specs.Sound.{IsSoundSync}
use Rattle.bank_model.specs.Stores.{Row, Store, is_up_to, applied, with_rows, marked_lost, taken}
use Rattle.sync_laws.specs.Folding.{IsFolded, rows_up_to}
use Rattle.sync_laws.specs.Histories.{AllFollow, IsInOrder}
use Rattle.sync_laws.specs.SyncRound.{store_after, bank_after}
use Rattle.sync_laws.proofs.Numbers.{newest_few, history_rises, split_rising, all_up_to_last}
use Rattle.sync_laws.proofs.Events.{grows_unless}
use Rattle.sync_laws.proofs.Lost.{token_low, answer_named, lost_refresh, reply_lost, refresh_kept}
use Rattle.sync_laws.proofs.Tokens.{token_read, newest_read}
use Rattle.sync_laws.proofs.Changes.{fold_entries, fold_entries-append, applied_wired, applied-append, applied_entries, applied_changes}
use Rattle.sync_laws.proofs.Added.{AddsReported, sync_adds}
use Rattle.sync_laws.proofs.Refreshing.{current_is_all}
use Rattle.bank_model.proofs.Histories.{history_of-append}

-- ---- what a reply brings

all_rows : (setup : Setup) (family : Family) (object : ObjectId) (entries : List Entry) → AllFollow setup [] entries → rows_up_to family object (newest object entries) entries ≡ fold_entries family [] (history_of object entries)
unfolding rows_up_to newest
all_rows setup family object entries all = ap (fold_entries family []) (all_up_to_last 0 (history_of object entries) (history_rises setup object [] entries all))

-- Where what is reported of the history makes all rows of the state before, the replies make those of the state after it.
brought : (setup : Setup) (S T : State) (family : Family) (object : ObjectId) (rows : List Row) (reported replies : List DeedReply) → IsInOrder setup T → applied family rows reported ≡ fold_entries family [] (history_of object S.entries) → AddsReported family object S.entries T.entries replies → applied family rows (map wire (reported ++ replies)) ≡ rows_up_to family object (newest object T.entries) T.entries
brought setup S T family object rows reported replies sound is adds =
    applied_wired family rows (reported ++ replies)
    ∙ applied-append family rows reported replies
    ∙ ap (λ held. applied family held replies) is
    ∙ adds.reported (fold_entries family [] (history_of object S.entries))
    ∙ sym (fold_entries-append family [] (history_of object S.entries) (history_of object adds.more))
    ∙ ap (fold_entries family []) (sym (history_of-append object S.entries adds.more) ∙ ap (history_of object) (sym adds.entries))
    ∙ sym (all_rows setup family object T.entries sound.follow)

at_most : (n m : ℕ) → n ≡ m → n ≤ m
at_most n m is = omega arith

-- a store with the newest token, and the rows that belong to it
right_new : (store : Store) (object : ObjectId) (entries : List Entry) (rows : List Row) (token : ℕ) (lost : Bool) → token ≡ newest object entries → (lost ≡ false → rows ≡ rows_up_to (object_family store.name) object (newest object entries) entries) → IsFolded (cond lost (marked_lost store) (with_rows store token rows)) object entries
right_new store object entries rows token true is same = inl refl
right_new store object entries rows token false is same =
    inr (at_most token (newest object entries) is, same refl ∙ ap (λ (n : ℕ). rows_up_to (object_family store.name) object n entries) (sym is))

token_new : (setup : Setup) (S : State) (object : ObjectId) → IsWithinLimits setup → IsInOrder setup S → unwrap_or (token_of (decimal (newest object S.entries))) 0 ≡ newest object S.entries
token_new setup S object within sound = ap (λ (o : Option ℕ). unwrap_or o 0) (newest_read setup S object within sound)

-- the deeds of a synchronisation that names this object are done, or refused with all others
abbrev rest : Setup → State → UserId → Moment → SyncAsk → ObjectId → State
rest setup S user at ask object = (deeds_or_rejection setup S user at ask (rejection ask.reject (newest object S.entries) ask.kind)).after

after_order : (setup : Setup) (S : State) (user : UserId) (at : Moment) (ask : SyncAsk) (object : ObjectId) → IsInOrder setup S → IsInOrder setup (rest setup S user at ask object)
after_order setup S user at ask object sound = (grows_unless setup S user at ask (rejection ask.reject (newest object S.entries) ask.kind)).order sound

adds_family : (setup : Setup) (S : State) (user : UserId) (at : Moment) (ask : SyncAsk) (object : ObjectId) (family : Family) → object_named setup user ask.object ≡ Some object → IsSoundSync ask → family ≡ object_family ask.object → AddsReported family object S.entries (rest setup S user at ask object).entries (deeds_or_rejection setup S user at ask (rejection ask.reject (newest object S.entries) ask.kind)).replies
adds_family setup S user at ask object family named known is =
    subst (λ (f : Family). AddsReported f object S.entries (rest setup S user at ask object).entries (deeds_or_rejection setup S user at ask (rejection ask.reject (newest object S.entries) ask.kind)).replies) (sym is)
    (sync_adds setup S user at ask object (newest object S.entries) named known)

-- ---- a client that names its token

right_rows : (store : Store) (object : ObjectId) (entries : List Entry) → store.is_lost ≡ false → IsFolded store object entries → store.rows ≡ rows_up_to (object_family store.name) object store.token entries
right_rows store object entries kept (inl lost) = absurd (true≢false (sym lost ∙ kept))
right_rows store object entries kept (inr right) = right.1

-- the rows up to a token, and the entries above it
rows_after : (setup : Setup) (family reported : Family) (object : ObjectId) (token : ℕ) (entries : List Entry) (rows : List Row) → AllFollow setup [] entries → rows ≡ rows_up_to family object token entries → applied family rows (map (reply_of_entry reported) (filter (is_above token) (history_of object entries))) ≡ fold_entries family [] (history_of object entries)
unfolding rows_up_to
rows_after setup family reported object token entries rows all is =
    applied_entries family reported rows (filter (is_above token) (history_of object entries))
    ∙ ap (λ held. fold_entries family held (filter (is_above token) (history_of object entries))) is
    ∙ sym (fold_entries-append family [] (filter (is_up_to token) (history_of object entries)) (filter (is_above token) (history_of object entries)))
    ∙ ap (fold_entries family []) (split_rising token 0 (history_of object entries) (history_rises setup object [] entries all))

reported_after : (window : ℕ) (object : ObjectId) (reported : Family) (entries : List Entry) (kind : SyncKind) (text : List ℕ) (token : ℕ) → kind ≡ After text → token_of text ≡ Some token → is_lost window object entries kind ≡ false → history_replies window object reported entries kind ≡ map (reply_of_entry reported) (filter (is_above token) (history_of object entries))
unfolding history_replies
reported_after window object reported entries kind text token is read kept =
    ap (history_replies window object reported entries) is
    ∙ ap (λ b. cond b [] (map (reply_of_entry reported) (entries_above (token_of text) (history_of object entries)))) (ap (is_lost window object entries) (sym is) ∙ kept)
    ∙ ap (λ (t : Option ℕ). map (reply_of_entry reported) (entries_above t (history_of object entries))) read

right_on : (setup : Setup) (S : State) (user : UserId) (at : Moment) (ask : SyncAsk) (object : ObjectId) (store : Store) (text : List ℕ) → IsWithinLimits setup → IsInOrder setup S → IsSoundSync ask → object_named setup user ask.object ≡ Some object → (object_family store.name) ≡ object_family ask.object → ask.kind ≡ After text → token_of text ≡ Some store.token → store.is_lost ≡ false → IsFolded store object S.entries → IsFolded (taken store (After text) (wire_sync (sync_on setup S user at ask (Some object)).reply)) object (sync_on setup S user at ask (Some object)).after.entries
unfolding sync_on taken
right_on setup S user at ask object store text within sound known named family kind read kept right =
    let next : State = rest setup S user at ask object in
    let order = after_order setup S user at ask object sound in
    right_new store object next.entries _ _ (is_lost setup.window object S.entries ask.kind)
    (token_new setup next object within order)
    (λ here. brought setup S next (object_family store.name) object store.rows (history_replies setup.window object (object_family ask.object) S.entries ask.kind) _ order
    (ap (applied (object_family store.name) store.rows) (reported_after setup.window object (object_family ask.object) S.entries ask.kind text store.token kind read here)
    ∙ rows_after setup (object_family store.name) (object_family ask.object) object store.token S.entries store.rows sound.follow (right_rows store object S.entries kept right))
    (adds_family setup S user at ask object (object_family store.name) named known family))

pub right_by_token : (setup : Setup) (S : State) (user : UserId) (at : Moment) (ask : SyncAsk) (object : ObjectId) (store : Store) (text : List ℕ) → IsWithinLimits setup → IsInOrder setup S → IsSoundSync ask → object_named setup user ask.object ≡ Some object → (object_family store.name) ≡ object_family ask.object → ask.kind ≡ After text → token_of text ≡ Some store.token → store.is_lost ≡ false → IsFolded store object S.entries → IsFolded (store_after setup S user at ask store) object (bank_after setup S user at ask).entries
right_by_token setup S user at ask object store text within sound known named family kind read kept right =
    subst (λ (k : SyncKind). IsFolded (taken store k (wire_sync (sync_answer setup S user at ask).reply)) object (sync_answer setup S user at ask).after.entries) (sym kind)
    (subst (λ answer. IsFolded (taken store (After text) (wire_sync answer.reply)) object answer.after.entries) (sym (answer_named setup S user at ask object named))
    (right_on setup S user at ask object store text within sound known named family kind read kept right))

-- ---- the new token

new_token : (store : Store) (rows : List Row) (token : ℕ) (lost : Bool) → (cond lost (marked_lost store) (with_rows store token rows)).is_lost ≡ false → (cond lost (marked_lost store) (with_rows store token rows)).token ≡ token
new_token store rows token true kept = absurd (true≢false kept)
new_token store rows token false kept = refl

abbrev HasNewest : Setup → Store → SyncKind → ObjectId → SyncAnswer → Type 0
HasNewest setup store kind object answer =
    (taken store kind (wire_sync answer.reply)).is_lost ≡ false → (taken store kind (wire_sync answer.reply)).token ≡ newest object answer.after.entries

token_on : (setup : Setup) (S : State) (user : UserId) (at : Moment) (ask : SyncAsk) (object : ObjectId) (store : Store) (text : List ℕ) → IsWithinLimits setup → IsInOrder setup S → HasNewest setup store (After text) object (sync_on setup S user at ask (Some object))
unfolding sync_on taken
token_on setup S user at ask object store text within sound kept =
    new_token store _ _ (is_lost setup.window object S.entries ask.kind) kept
    ∙ token_new setup (rest setup S user at ask object) object within (after_order setup S user at ask object sound)

pub token_by_token : (setup : Setup) (S : State) (user : UserId) (at : Moment) (ask : SyncAsk) (object : ObjectId) (store : Store) (text : List ℕ) → IsWithinLimits setup → IsInOrder setup S → object_named setup user ask.object ≡ Some object → ask.kind ≡ After text → (store_after setup S user at ask store).is_lost ≡ false → (store_after setup S user at ask store).token ≡ newest object (bank_after setup S user at ask).entries
token_by_token setup S user at ask object store text within sound named kind =
    subst (λ (k : SyncKind). HasNewest setup store k object (sync_answer setup S user at ask)) (sym kind)
    (subst (HasNewest setup store (After text) object) (sym (answer_named setup S user at ask object named))
    (token_on setup S user at ask object store text within sound))

-- the digits of a store's token stand for it
pub text_of_token : (setup : Setup) (S : State) (object : ObjectId) (store : Store) → IsWithinLimits setup → IsInOrder setup S → store.is_lost ≡ false → IsFolded store object S.entries → token_of (decimal store.token) ≡ Some store.token
text_of_token setup S object store within sound kept right =
    let low = token_low store object S.entries kept right in
    let few = newest_few setup object S.entries sound.follow in
    let most = sound.few in
    let limit = within.lines.entries_high in
    token_read store.token (omega arith)

-- ---- a client that asks for all

reported_refresh : (window : ℕ) (object : ObjectId) (reported : Family) (entries : List Entry) (kind : SyncKind) → kind ≡ Refresh → history_replies window object reported entries kind ≡ map (reply_with_change reported (codes "0")) (present object entries)
unfolding history_replies
reported_refresh window object reported entries kind is = ap (history_replies window object reported entries) is

refresh_on : (setup : Setup) (S : State) (user : UserId) (at : Moment) (ask : SyncAsk) (object : ObjectId) (store : Store) → IsWithinLimits setup → IsInOrder setup S → IsSoundSync ask → object_named setup user ask.object ≡ Some object → (object_family store.name) ≡ object_family ask.object → ask.kind ≡ Refresh → IsFolded (taken store Refresh (wire_sync (sync_on setup S user at ask (Some object)).reply)) object (sync_on setup S user at ask (Some object)).after.entries
unfolding sync_on taken
refresh_on setup S user at ask object store within sound known named family kind =
    let next : State = rest setup S user at ask object in
    let order = after_order setup S user at ask object sound in
    right_new store object next.entries _ _ (is_lost setup.window object S.entries ask.kind)
    (token_new setup next object within order)
    (λ here. brought setup S next (object_family store.name) object [] (history_replies setup.window object (object_family ask.object) S.entries ask.kind) _ order
    (ap (applied (object_family store.name) []) (reported_refresh setup.window object (object_family ask.object) S.entries ask.kind kind)
    ∙ applied_changes (object_family store.name) (object_family ask.object) (codes "0") [] (present object S.entries)
    ∙ current_is_all setup (object_family store.name) object S.entries sound.follow)
    (adds_family setup S user at ask object (object_family store.name) named known family))

pub right_by_refresh : (setup : Setup) (S : State) (user : UserId) (at : Moment) (ask : SyncAsk) (object : ObjectId) (store : Store) → IsWithinLimits setup → IsInOrder setup S → IsSoundSync ask → object_named setup user ask.object ≡ Some object → (object_family store.name) ≡ object_family ask.object → ask.kind ≡ Refresh → IsFolded (store_after setup S user at ask store) object (bank_after setup S user at ask).entries
right_by_refresh setup S user at ask object store within sound known named family kind =
    subst (λ (k : SyncKind). IsFolded (taken store k (wire_sync (sync_answer setup S user at ask).reply)) object (sync_answer setup S user at ask).after.entries) (sym kind)
    (subst (λ answer. IsFolded (taken store Refresh (wire_sync answer.reply)) object answer.after.entries) (sym (answer_named setup S user at ask object named))
    (refresh_on setup S user at ask object store within sound known named family kind))

pub kept_by_refresh : (setup : Setup) (S : State) (user : UserId) (at : Moment) (ask : SyncAsk) (object : ObjectId) (store : Store) → object_named setup user ask.object ≡ Some object → ask.kind ≡ Refresh → (store_after setup S user at ask store).is_lost ≡ false
kept_by_refresh setup S user at ask object store named kind =
    ap (λ (k : SyncKind). (taken store k (wire_sync (sync_answer setup S user at ask).reply)).is_lost) kind
    ∙ lost_refresh store (wire_sync (sync_answer setup S user at ask).reply)
    ∙ reply_lost setup S user at ask object named
    ∙ ap (is_lost setup.window object S.entries) kind
    ∙ refresh_kept setup.window object S.entries

refreshed_token : (setup : Setup) (S : State) (user : UserId) (at : Moment) (ask : SyncAsk) (object : ObjectId) (store : Store) → IsWithinLimits setup → IsInOrder setup S → HasNewest setup store Refresh object (sync_on setup S user at ask (Some object))
unfolding sync_on taken
refreshed_token setup S user at ask object store within sound kept =
    new_token store _ _ (is_lost setup.window object S.entries ask.kind) kept
    ∙ token_new setup (rest setup S user at ask object) object within (after_order setup S user at ask object sound)

pub token_by_refresh : (setup : Setup) (S : State) (user : UserId) (at : Moment) (ask : SyncAsk) (object : ObjectId) (store : Store) → IsWithinLimits setup → IsInOrder setup S → object_named setup user ask.object ≡ Some object → ask.kind ≡ Refresh → (store_after setup S user at ask store).token ≡ newest object (bank_after setup S user at ask).entries
token_by_refresh setup S user at ask object store within sound named kind =
    (subst (λ (k : SyncKind). HasNewest setup store k object (sync_answer setup S user at ask)) (sym kind)
    (subst (HasNewest setup store Refresh object) (sym (answer_named setup S user at ask object named))
    (refreshed_token setup S user at ask object store within sound))) (kept_by_refresh setup S user at ask object store named kind)
