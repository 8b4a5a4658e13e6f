-- The answers to synchronisations are sound, and the history may be reported after them.
use Rattle.std.proofs.Common.{◌≡◌, ◌≢◌, ℕ, ◌≤◌, Bool, true, false, cond, List, [], ◌∷◌, map, codes, Option, None, Some, refl, sym, subst, arith}
use Rattle.std.specs.List.{AllByRecursion}
use Rattle.std.specs.Option.{IfSome}
use Rattle.std.proofs.lemmas.Bool.{eqb-true}
use Rattle.ofx_types.specs.SyncForm.{object_family}
use Rattle.ofx_types.specs.declared.number.Moment.{Moment}
use Rattle.ofx_types.specs.declared.number.ObjectId.{ObjectId}
use Rattle.ofx_types.specs.declared.number.UserId.{UserId}
use Rattle.ofx_types.specs.declared.transfer.TransferRow.{TransferRow}
use Rattle.ofx_types.specs.declared.recurring.ModelRow.{ModelRow}
use Rattle.ofx_types.specs.declared.transfer.Change.{Change}
use Rattle.ofx_types.specs.declared.transfer.Change.TheVariants.{NewTransfer, SetTransfer, DropTransfer, NewModel, SetModel, DropModel, NewMail}
use Rattle.ofx_types.specs.declared.transfer.Family.{Family}
use Rattle.ofx_types.specs.declared.transfer.Family.TheVariants as families
use Rattle.ofx_types.specs.declared.sync.SyncKind.{SyncKind}
use Rattle.ofx_types.specs.declared.sync.SyncKind.TheVariants.{After, TokenOnly, Refresh}
use Rattle.ofx_types.specs.declared.sync.SyncAsk.{SyncAsk}
use Rattle.bank_model.specs.declared.entry.Entry.{Entry}
use Rattle.bank_model.specs.declared.setup.Setup.{Setup}
use Rattle.bank_model.specs.declared.event.State.{State}
use Rattle.bank_model.specs.SetupForm.{IsWithinLimits}
use Rattle.bank_model.specs.Ledger.{row_of}
use Rattle.bank_model.specs.Models.{model_of, is_model_dropped}
use Rattle.bank_model.specs.Judging.{is_cancelled}
use Rattle.bank_model.specs.Objects.{account_about, object_named, belongs_to, history_of, newest}
use Rattle.bank_model.specs.Sync.{token_of, is_lost, reply_with_change, is_above, entries_above, reply_of_entry, current_transfer, current_model, current_in, present, history_replies, is_newest, unless_newest, rejection, deeds_or_rejection, sync_on, sync_answer}
use Rattle.bank_model.specs.Sound as file
use Rattle.sync_laws.specs.ObjectFamilies.{IsObjectOf}
use Rattle.bank_model.proofs.Lists.{all_append}
use Rattle.sync_laws.proofs.Numbers.{newest_few}
use Rattle.sync_laws.proofs.Positions.{one_family, named_index}
use Rattle.msg_parts.specs.SoundParts.{IsTextWithin, family_of_change}
use Rattle.msg_sync.specs.SoundSyncs.{IsSoundReportedIn, IsSoundSyncReply}
use Rattle.reply_laws.specs.Reportable.{IsReportedChange, IsReportedEntry, IsReportable}
use Rattle.bank_model.proofs.Lists.{all_filter, all_map, all_flat}
use Rattle.reply_laws.proofs.Values.{object_sound, zero_within}
use Rattle.reply_laws.proofs.Arguments.{token_within}
use Rattle.reply_laws.proofs.Found.{known_row, known_model}
use Rattle.bank_invariants.proofs.NextLemmas.{not_cancelled}
use Rattle.reply_laws.proofs.States.{reportable_unless}
use Rattle.reply_laws.proofs.Answers.{MayAsk, reported_sound, all_refused, deeds_sound}

-- ---- the history of an object

-- an entry of an object of this family
abbrev IsReportedIn : Family → Entry → Type 0
IsReportedIn family entry = IsTextWithin 36 entry.trnuid × IsReportedChange entry.change × (family_of_change entry.change ≡ family)

-- a change that is reported of an object of this family
abbrev IsChangeIn : Family → Change → Type 0
IsChangeIn family change = IsReportedChange change × (family_of_change change ≡ family)

history_in : (setup : Setup) (user : UserId) (ask : SyncAsk) (object : ObjectId) (entries : List Entry) → object_named setup user ask.object ≡ Some object → AllByRecursion (IsReportedEntry setup) entries → AllByRecursion (IsReportedIn (object_family ask.object)) (history_of object entries)
unfolding history_of
history_in setup user ask object entries named all =
    all_filter (IsReportedEntry setup) (IsReportedIn (object_family ask.object)) (belongs_to object) entries
    (λ entry reported here. (
      reported.trnuid,
      reported.change,
      one_family setup (family_of_change entry.change) (object_family ask.object) entry.object.0 reported.object
          (subst (IsObjectOf setup (object_family ask.object)) (sym (eqb-true entry.object.0 object.0 here)) (named_index setup user ask.object object named)),
    ))
    all

above_in : (family : Family) (token : Option ℕ) (entries : List Entry) → AllByRecursion (IsReportedIn family) entries → AllByRecursion (IsReportedIn family) (entries_above token entries)
above_in family None entries all = tt
above_in family (Some token) entries all = all_filter (IsReportedIn family) (IsReportedIn family) (is_above token) entries (λ entry reported here. reported) all

-- ---- what is

transfer_in : (setup : Setup) (id : ℕ) (family : Family) (entries : List Entry) (found : Option TransferRow) → row_of id entries ≡ found → AllByRecursion (IsReportedEntry setup) entries → families.Intra ≡ family → AllByRecursion (IsChangeIn family) (current_transfer found)
transfer_in setup id family entries None is all same = tt
transfer_in setup id family entries (Some row) is all same = by_code (is_cancelled row.code) refl
  where
    by_code : (gone : Bool) → is_cancelled row.code ≡ gone → AllByRecursion (IsChangeIn family) (cond gone [] (NewTransfer row ∷ []))
    by_code true here = tt
    by_code false here =
        let known = known_row setup id entries row all is in
        (((record { id = known.id; info = known.info; reported = not_cancelled row.code here; stamp = known.stamp }, known.model), same), tt)

model_in : (setup : Setup) (id : ℕ) (family : Family) (entries : List Entry) (gone : Bool) (found : Option ModelRow) → model_of id entries ≡ found → AllByRecursion (IsReportedEntry setup) entries → families.RecIntra ≡ family → AllByRecursion (IsChangeIn family) (current_model gone found)
model_in setup id family entries gone None is all same = tt
model_in setup id family entries true (Some row) is all same = tt
model_in setup id family entries false (Some row) is all same = ((known_model setup id entries row all is, same), tt)

current_is : (setup : Setup) (family : Family) (entries : List Entry) (change : Change) → AllByRecursion (IsReportedEntry setup) entries → IsReportedChange change → family_of_change change ≡ family → AllByRecursion (IsChangeIn family) (current_in entries change)
current_is setup family entries (NewTransfer row) all reported same = transfer_in setup row.id family entries (row_of row.id entries) refl all same
current_is setup family entries (SetTransfer row) all reported same = tt
current_is setup family entries (DropTransfer id) all reported same = tt
current_is setup family entries (NewModel row) all reported same = model_in setup row.id family entries (is_model_dropped row.id entries) (model_of row.id entries) refl all same
current_is setup family entries (SetModel row also) all reported same = tt
current_is setup family entries (DropModel id also) all reported same = tt
current_is setup family entries (NewMail row) all reported same = ((reported, same), tt)

current_reported : (setup : Setup) (family : Family) (object : ObjectId) (entries : List Entry) → AllByRecursion (IsReportedEntry setup) entries → AllByRecursion (IsReportedIn family) (history_of object entries) → AllByRecursion (IsChangeIn family) (present object entries)
unfolding present
current_reported setup family object entries all reported =
    all_flat (IsReportedIn family) (IsChangeIn family) (λ (entry : Entry). current_in entries entry.change) (history_of object entries) (λ entry here. current_is setup family entries entry.change all here.1 here.2) reported

-- ---- the history that is reported

reported_in : (setup : Setup) (family : Family) (object : ObjectId) (entries : List Entry) (kind : SyncKind) → AllByRecursion (IsReportedEntry setup) entries → AllByRecursion (IsReportedIn family) (history_of object entries) → AllByRecursion (IsSoundReportedIn family) (history_replies setup.window object family entries kind)
unfolding history_replies
reported_in setup family object entries (After text) all reported = by_index (is_lost setup.window object entries (After text))
  where
    by_index : (lost : Bool) → AllByRecursion (IsSoundReportedIn family) (cond lost [] (map (reply_of_entry family) (entries_above (token_of text) (history_of object entries))))
    by_index true = tt
    by_index false =
        all_map (IsReportedIn family) (IsSoundReportedIn family) (reply_of_entry family) _ (λ entry here. (reported_sound entry.trnuid family entry.change here.0 here.1 here.2, refl))
        (above_in family (token_of text) (history_of object entries) reported)
reported_in setup family object entries TokenOnly all reported = tt
reported_in setup family object entries Refresh all reported =
    all_map (IsChangeIn family) (IsSoundReportedIn family) (reply_with_change family (codes "0")) (present object entries)
    (λ change here. (reported_sound (codes "0") family change (zero_within 36 (omega arith)) here.0 here.1, refl))
    (current_reported setup family object entries all reported)

-- ---- deeds that are refused

abbrev IsRefusal : ℕ → Type 0
IsRefusal code = (code ≢ 0) × (code ≤ 65535)

missed : (kind : SyncKind) (number : ℕ) → IfSome (unless_newest number kind) IsRefusal
missed (After text) number = by_token (is_newest number (token_of text))
  where
    by_token : (b : Bool) → IfSome (cond b None (Some 6502)) IsRefusal
    by_token true = tt
    by_token false = ((λ (none : 6502 ≡ 0). omega arith), omega arith)
missed TokenOnly number = ((λ (none : 6500 ≡ 0). omega arith), omega arith)
missed Refresh number = ((λ (none : 6500 ≡ 0). omega arith), omega arith)

rejected : (reject : Bool) (number : ℕ) (kind : SyncKind) → IfSome (rejection reject number kind) IsRefusal
rejected true number kind = missed kind number
rejected false number kind = tt

done_or_rejected : (setup : Setup) (S : State) (user : UserId) (at : Moment) (ask : SyncAsk) (code : Option ℕ) → IfSome code IsRefusal → MayAsk setup S user at → file.IsSoundSync ask → AllByRecursion (IsSoundReportedIn (object_family ask.object)) (deeds_or_rejection setup S user at ask code).replies
unfolding deeds_or_rejection
done_or_rejected setup S user at ask None refusal may sound =
    deeds_sound setup S user (account_about setup user ask.object) at (object_family ask.object) ask.deeds may sound.deeds
done_or_rejected setup S user at ask (Some code) refusal may sound =
    all_refused (object_family ask.object) code ask.deeds refusal.0 refusal.1 sound.deeds

-- ---- the answer

pub token_few : (setup : Setup) (S : State) (object : ObjectId) → IsWithinLimits setup → IsReportable setup S → newest object S.entries ≤ 9999999999
token_few setup S object within reportable =
    let few = newest_few setup object S.entries reportable.order.follow in
    let most = reportable.order.few in
    let limit = within.lines.entries_high in
    omega arith

on_sound : (setup : Setup) (S : State) (user : UserId) (at : Moment) (ask : SyncAsk) (found : Option ObjectId) → object_named setup user ask.object ≡ found → MayAsk setup S user at → file.IsSoundSync ask → IsSoundSyncReply (sync_on setup S user at ask found).reply
unfolding sync_on
on_sound setup S user at ask None is may sound = record {
  object = object_sound ask.object sound.object;
  token = zero_within 64 (omega arith);
  replies = all_refused (object_family ask.object) 2003 ask.deeds (λ (none : 2003 ≡ 0). omega arith) (omega arith) sound.deeds;
}
on_sound setup S user at ask (Some found) is may sound =
    let code : Option ℕ = rejection ask.reject (newest found S.entries) ask.kind in
    let done = done_or_rejected setup S user at ask code (rejected ask.reject (newest found S.entries) ask.kind) may sound in
    let reportable = reportable_unless setup S user at ask code may sound in
    let reported = history_in setup user ask found S.entries is may.reportable.entries in
    record {
      object = object_sound ask.object sound.object;
      token = token_within (newest found (deeds_or_rejection setup S user at ask code).after.entries) (token_few setup (deeds_or_rejection setup S user at ask code).after found may.within reportable);
      replies = all_append (IsSoundReportedIn (object_family ask.object)) (history_replies setup.window found (object_family ask.object) S.entries ask.kind) (deeds_or_rejection setup S user at ask code).replies
          (reported_in setup (object_family ask.object) found S.entries ask.kind may.reportable.entries reported) done;
    }

pub sync_sound : (setup : Setup) (S : State) (user : UserId) (at : Moment) (ask : SyncAsk) → MayAsk setup S user at → file.IsSoundSync ask → IsSoundSyncReply (sync_answer setup S user at ask).reply
unfolding sync_answer
sync_sound setup S user at ask may sound = on_sound setup S user at ask (object_named setup user ask.object) refl may sound
