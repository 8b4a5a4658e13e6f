-- The replies to sound files may be printed.
use Rattle.std.proofs.Common.{◌≡◌, ◌≢◌, ℕ, rules, Bool, true, false, cond, eqb, List, [], ◌∷◌, ◌++◌, Option, None, Some, map, filter, codes, refl, sym, ◌∙◌, subst, arith}
use Rattle.std.specs.Prelude.{unwrap_or, negsuc, ◌&&◌}
use Rattle.std.specs.Option.{IfSome}
use Rattle.std.specs.List.{AllByRecursion, flat_map}
use Rattle.std.proofs.lemmas.Bool.{eqb-true, eq-eqb, true≢false}
use Rattle.ofx_types.specs.Calendar.{IsMoment}
use Rattle.ofx_types.specs.Printable.{IsPrintable, IsPrintableReply, IsPrintableList, IsPrintableChange, HasChangeByCode}
use Rattle.ofx_types.specs.declared.number.AcctId.{AcctId}
use Rattle.ofx_types.specs.declared.number.UserId.{UserId}
use Rattle.ofx_types.specs.declared.number.Moment.{Moment}
use Rattle.ofx_types.specs.declared.account.AcctName.{AcctName}
use Rattle.ofx_types.specs.SyncForm.{object_family}
use Rattle.ofx_types.specs.declared.number.ObjectId.{ObjectId}
use Rattle.ofx_types.specs.declared.recurring.ModelRow.{ModelRow}
use Rattle.ofx_types.specs.declared.sync.SyncKind.{SyncKind}
use Rattle.ofx_types.specs.declared.sync.SyncKind.TheVariants.{After, TokenOnly, Refresh}
use Rattle.ofx_types.specs.declared.sync.SyncAsk.{SyncAsk}
use Rattle.ofx_types.specs.declared.transfer.Family.{Family}
use Rattle.ofx_types.specs.declared.transfer.DeedReply.{DeedReply}
use Rattle.ofx_types.specs.declared.request.Period.{Period}
use Rattle.ofx_types.specs.declared.request.Ask.{Ask}
use Rattle.ofx_types.specs.declared.request.Ask.TheVariants.{Statement, One, Sync}
use Rattle.ofx_types.specs.declared.request.RequestFile.{RequestFile}
use Rattle.ofx_types.specs.declared.reply.StatementLine.{StatementLine}
use Rattle.ofx_types.specs.declared.transfer.Deed.{Deed}
use Rattle.ofx_types.specs.declared.transfer.TransferRow.{TransferRow}
use Rattle.ofx_types.specs.declared.transfer.Change.{Change}
use Rattle.ofx_types.specs.declared.transfer.Change.TheVariants.{NewTransfer, SetTransfer, DropTransfer, NewModel, SetModel, DropModel, NewMail}
use Rattle.bank_model.specs.declared.entry.Entry.{Entry}
use Rattle.bank_model.specs.declared.setup.Setup.{Setup}
use Rattle.bank_model.specs.declared.event.State.{State}
use Rattle.bank_model.specs.SetupForm.{IsWithinLimits}
use Rattle.bank_model.specs.Ledger.{Posting, row_in, row_of, is_posted, posting_of, moved, is_about, is_within_period, line_for, lines_of}
use Rattle.bank_model.specs.Judging.{is_cancelled}
use Rattle.bank_model.specs.Deeds.{done, code_of, first_change, deed_answer}
use Rattle.bank_model.specs.SetupLookups.{own_account}
use Rattle.bank_model.specs.Objects.{account_about, object_named, belongs_to, history_of, newest}
use Rattle.bank_model.specs.Polls.{reported_token, newest_if_any, poll_answer, poll_reply}
use Rattle.bank_model.specs.Sync.{token_of, is_lost, reply_with_change, is_above, entries_above, reply_of_entry, current_transfer, current_model, current_in, present, history_replies, refused_with, rejection, deed_answers, deeds_or_rejection, sync_on, sync_answer}
use Rattle.bank_model.specs.Rules.{asked_list, list_of, statement_reply, ask_answer, ask_answers, reply_file}
use Rattle.bank_model.specs.Sound.{IsSoundAsk, IsSoundDeed, IsSoundPair, IsSoundSync, IsSoundPeriod}
use Rattle.bank_model.specs.Models.{model_of, is_model_dropped}
use Rattle.bank_invariants.specs.SoundStates.{IsSoundRow, HasSoundRow, MayBeReported, IsSoundState}
use Rattle.bank_invariants.proofs.NextLemmas.{not_cancelled}
use Rattle.bank_invariants.proofs.DoneLemmas.{IsDone, deed_done}
use Rattle.bank_invariants.proofs.SoundFound.{row_sound, model_sound}
use Rattle.bank_invariants.proofs.StateLemmas.{IsAllowed-from_code, IsSoundState-deed, IsSoundState-ask}
use Rattle.bank_model.proofs.Lists.{all_append, all_filtered}
use Rattle.bank_model.proofs.Rejections.{rejection_coded}

-- ---- statements

moment_or : (moment : Option Moment) (d : Moment) → IfSome moment (λ (m : Moment). IsMoment m.0) → IsMoment d.0 → IsMoment (unwrap_or moment d).0
moment_or None d known default = default
moment_or (Some m) d known default = known

abbrev StampKnown : Posting → Type 0
StampKnown posting = IsMoment posting.row.stamp.0

stamps_append : (xs ys : List Posting) → AllByRecursion StampKnown xs → AllByRecursion StampKnown ys → AllByRecursion StampKnown (xs ++ ys)
stamps_append [] ys first second = second
stamps_append (x ∷ xs) ys first second = (first.0, stamps_append xs ys first.1 second)

stamp_some : (number : ℕ) (row : TransferRow) (b : Bool) → IsMoment row.stamp.0 → AllByRecursion StampKnown (cond b (record { number = number; row = row } ∷ []) [])
stamp_some number row true known = (known, tt)
stamp_some number row false known = tt

stamp_row : (setup : Setup) (number : ℕ) (row : Option TransferRow) → IfSome row (IsSoundRow setup) → AllByRecursion StampKnown (posting_of number row)
stamp_row setup number None sound = tt
stamp_row setup number (Some row) sound = stamp_some number row (is_posted row.code) sound.stamp

stamps_known : (setup : Setup) (entries : List Entry) → AllByRecursion (HasSoundRow setup) entries → AllByRecursion StampKnown (moved entries)
unfolding moved
stamps_known setup [] sound = tt
stamps_known setup (entry ∷ entries) sound =
    stamps_append (posting_of entry.number (row_in entry.change)) _ (stamp_row setup entry.number (row_in entry.change) sound.0) (stamps_known setup entries sound.1)

abbrev LineKnown : StatementLine → Type 0
LineKnown line = IsMoment line.posted.0

line_some : (name : AcctName) (p : Posting → Bool) (posting : Posting) (rest : List Posting) (b : Bool) → StampKnown posting → AllByRecursion LineKnown (map (line_for name) rest) → AllByRecursion LineKnown (map (line_for name) (cond b (posting ∷ rest) rest))
line_some name p posting rest true known more = (known, more)
line_some name p posting rest false known more = more

lines_filtered : (name : AcctName) (p : Posting → Bool) (postings : List Posting) → AllByRecursion StampKnown postings → AllByRecursion LineKnown (map (line_for name) (filter p postings))
lines_filtered name p [] known = tt
lines_filtered name p (posting ∷ postings) known =
    line_some name p posting (filter p postings) (p posting) known.0 (lines_filtered name p postings known.1)

lines_known : (name : AcctName) (start : Moment) (end : Option Moment) (postings : List Posting) → AllByRecursion StampKnown postings → AllByRecursion LineKnown (lines_of name start end postings)
unfolding lines_of
lines_known name start end postings known = lines_filtered name (λ (posting : Posting). is_about name posting && is_within_period start end posting) postings known

-- the list of a sound period
printable_list : (setup : Setup) (S : State) (at : Moment) (name : AcctName) (period : Period) → IsSoundState setup S → IsMoment at.0 → IsSoundPeriod period → IsPrintableList (list_of S at name period)
printable_list setup S at name period good lawful sound = record {
  start = moment_or period.start (record { 0 = negsuc 2208988799 }) sound.0 (search rules);
  end = moment_or period.end at sound.1 lawful;
  lines = lines_known name (unwrap_or period.start (record { 0 = negsuc 2208988799 })) period.end (moved S.entries) (stamps_known setup S.entries good.rows);
}

list_if : (setup : Setup) (S : State) (at : Moment) (name : AcctName) (period : Period) (include : Bool) → IsSoundState setup S → IsMoment at.0 → IsSoundPeriod period → IfSome (cond include (Some (list_of S at name period)) None) IsPrintableList
list_if setup S at name period true good lawful sound = printable_list setup S at name period good lawful sound
list_if setup S at name period false good lawful sound = tt

printable_asked : (setup : Setup) (S : State) (at : Moment) (name : AcctName) (period : Option Period) → IsSoundState setup S → IsMoment at.0 → IfSome period IsSoundPeriod → IfSome (asked_list S at name period) IsPrintableList
printable_asked setup S at name None good lawful sound = tt
printable_asked setup S at name (Some period) good lawful sound = list_if setup S at name period period.include good lawful sound

printable_statement : (setup : Setup) (S : State) (at : Moment) (trnuid : List ℕ) (name : AcctName) (period : Option Period) (account : Option AcctId) → IsSoundState setup S → IsMoment at.0 → IfSome period IsSoundPeriod → IsPrintableReply (statement_reply setup S at trnuid name period account)
printable_statement setup S at trnuid name period None good lawful sound = λ (e : 2003 ≡ 0). omega arith
printable_statement setup S at trnuid name period (Some account) good lawful sound =
    (refl, record { list = printable_asked setup S at name period good lawful sound; moment = lawful })

-- ---- deeds

printable_done : (setup : Setup) (S : State) (entries : List Entry) → IsDone setup S entries → HasChangeByCode 0 (first_change entries)
printable_done setup S entries does =
    subst (λ (l : List Entry). HasChangeByCode 0 (first_change l)) (sym does.are)
    (refl, does.next.reported)

printable_coded : (setup : Setup) (S : State) (code : ℕ) (zero : Bool) (entries : List Entry) → eqb code 0 ≡ zero → (code ≡ 0 → IsDone setup S entries) → HasChangeByCode code (first_change (cond zero entries []))
printable_coded setup S code true entries is does =
    let none : code ≡ 0 = eqb-true code 0 is in
    subst (λ (n : ℕ). HasChangeByCode n (first_change entries)) (sym none) (printable_done setup S entries (does none))
printable_coded setup S code false entries is does = λ none. true≢false (sym (eq-eqb code 0 none) ∙ is)

printable_deed : (setup : Setup) (S : State) (user : UserId) (only : Option AcctId) (at : Moment) (trnuid : List ℕ) (deed : Deed) → IsWithinLimits setup → IsSoundState setup S → IsMoment at.0 → IsSoundDeed deed → HasChangeByCode (deed_answer setup S user only at trnuid deed).reply.code (deed_answer setup S user only at trnuid deed).reply.change
unfolding deed_answer
printable_deed setup S user only at trnuid deed within good lawful sound =
    let code : ℕ = code_of setup S user only at trnuid deed in
    printable_coded setup S code (eqb code 0) (done setup S user at trnuid deed) refl
    (λ none. deed_done setup S user only at trnuid deed within good lawful sound (IsAllowed-from_code setup S user only at trnuid deed none).judged (IsAllowed-from_code setup S user only at trnuid deed none).few)

-- ---- synchronisations

abbrev MayBePrinted : DeedReply → Type 0
MayBePrinted reply = HasChangeByCode reply.code reply.change

history_reported_of : (object : ObjectId) (entries : List Entry) → AllByRecursion MayBeReported entries → AllByRecursion MayBeReported (history_of object entries)
unfolding history_of
history_reported_of object entries reported = all_filtered MayBeReported (belongs_to object) entries reported

reported_entries : (family : Family) (entries : List Entry) → AllByRecursion MayBeReported entries → AllByRecursion MayBePrinted (map (reply_of_entry family) entries)
reported_entries family [] reported = tt
reported_entries family (entry ∷ entries) reported = ((refl, reported.0), reported_entries family entries reported.1)

above_reported : (token : Option ℕ) (entries : List Entry) → AllByRecursion MayBeReported entries → AllByRecursion MayBeReported (entries_above token entries)
above_reported None entries reported = tt
above_reported (Some token) entries reported = all_filtered MayBeReported (is_above token) entries reported

-- what there is now of a change that may be reported
current_row : (setup : Setup) (S : State) (id : ℕ) (found : Option TransferRow) → IsSoundState setup S → row_of id S.entries ≡ found → AllByRecursion IsPrintableChange (current_transfer found)
current_row setup S id None sound is = tt
current_row setup S id (Some row) sound is = unless (is_cancelled row.code) refl
  where
    good : IsSoundRow setup row
    good = row_sound setup S id row sound is

    unless : (cancelled : Bool) → is_cancelled row.code ≡ cancelled → AllByRecursion IsPrintableChange (cond cancelled [] (NewTransfer row ∷ []))
    unless true here = tt
    unless false here = (record { reported = not_cancelled row.code here; due = good.due; stamp = good.stamp }, tt)

current_recurring : (setup : Setup) (S : State) (id : ℕ) (cancelled : Bool) (found : Option ModelRow) → IsSoundState setup S → model_of id S.entries ≡ found → AllByRecursion IsPrintableChange (current_model cancelled found)
current_recurring setup S id cancelled None sound is = tt
current_recurring setup S id true (Some row) sound is = tt
current_recurring setup S id false (Some row) sound is = ((model_sound setup S id row sound is).first, tt)

current_change : (setup : Setup) (S : State) (change : Change) → IsSoundState setup S → IsPrintableChange change → AllByRecursion IsPrintableChange (current_in S.entries change)
current_change setup S (NewTransfer row) sound reported = current_row setup S row.id (row_of row.id S.entries) sound refl
current_change setup S (SetTransfer row) sound reported = tt
current_change setup S (DropTransfer id) sound reported = tt
current_change setup S (NewModel row) sound reported = current_recurring setup S row.id (is_model_dropped row.id S.entries) (model_of row.id S.entries) sound refl
current_change setup S (SetModel row also) sound reported = tt
current_change setup S (DropModel id also) sound reported = tt
current_change setup S (NewMail row) sound reported = (reported, tt)

current_all : (setup : Setup) (S : State) (entries : List Entry) → IsSoundState setup S → AllByRecursion MayBeReported entries → AllByRecursion IsPrintableChange (flat_map (λ (entry : Entry). current_in S.entries entry.change) entries)
current_all setup S [] sound reported = tt
current_all setup S (entry ∷ entries) sound reported =
    all_append IsPrintableChange (current_in S.entries entry.change) _ (current_change setup S entry.change sound reported.0) (current_all setup S entries sound reported.1)

reported_changes : (family : Family) (trnuid : List ℕ) (changes : List Change) → AllByRecursion IsPrintableChange changes → AllByRecursion MayBePrinted (map (reply_with_change family trnuid) changes)
reported_changes family trnuid [] reported = tt
reported_changes family trnuid (change ∷ changes) reported = ((refl, reported.0), reported_changes family trnuid changes reported.1)

printable_history : (setup : Setup) (S : State) (object : ObjectId) (family : Family) (kind : SyncKind) → IsSoundState setup S → AllByRecursion MayBePrinted (history_replies setup.window object family S.entries kind)
unfolding history_replies present
printable_history setup S object family (After text) sound =
    elim (is_lost setup.window object S.entries (After text)) as (λ lost. AllByRecursion MayBePrinted (cond lost [] (map (reply_of_entry family) (entries_above (token_of text) (history_of object S.entries))))) [
      | true ↦ tt
      | false ↦ reported_entries family _ (above_reported (token_of text) (history_of object S.entries) (history_reported_of object S.entries sound.reported))
    ]
printable_history setup S object family TokenOnly sound = tt
printable_history setup S object family Refresh sound =
    reported_changes family (codes "0") _ (current_all setup S (history_of object S.entries) sound (history_reported_of object S.entries sound.reported))

printable_refused : (family : Family) (code : ℕ) (deeds : List (List ℕ × Deed)) → code ≢ 0 → AllByRecursion MayBePrinted (map (refused_with family code) deeds)
printable_refused family code [] other = tt
printable_refused family code (deed ∷ deeds) other = (other, printable_refused family code deeds other)

printable_deeds : (setup : Setup) (S : State) (user : UserId) (only : Option AcctId) (at : Moment) (family : Family) (deeds : List (List ℕ × Deed)) → IsWithinLimits setup → IsSoundState setup S → IsMoment at.0 → AllByRecursion (IsSoundPair family) deeds → AllByRecursion MayBePrinted (deed_answers setup S user only at deeds).replies
unfolding deed_answers
printable_deeds setup S user only at family [] within good lawful sound = tt
printable_deeds setup S user only at family (deed ∷ deeds) within good lawful sound = (
  printable_deed setup S user only at deed.0 deed.1 within good lawful sound.0.1,
  printable_deeds setup (deed_answer setup S user only at deed.0 deed.1).after user only at family deeds within (IsSoundState-deed setup S user only at deed.0 deed.1 within good lawful sound.0.1) lawful sound.1,
)

printable_sync : (setup : Setup) (S : State) (user : UserId) (at : Moment) (ask : SyncAsk) (found : Option ObjectId) → IsWithinLimits setup → IsSoundState setup S → IsMoment at.0 → IsSoundSync ask → AllByRecursion MayBePrinted (sync_on setup S user at ask found).reply.replies
unfolding sync_on deeds_or_rejection
printable_sync setup S user at ask None within good lawful sound = printable_refused (object_family ask.object) 2003 ask.deeds (λ (e : 2003 ≡ 0). omega arith)
printable_sync setup S user at ask (Some object) within good lawful sound =
    all_append MayBePrinted (history_replies setup.window object (object_family ask.object) S.entries ask.kind) _
    (printable_history setup S object (object_family ask.object) ask.kind good)
    (unless (rejection ask.reject (newest object S.entries) ask.kind) (rejection_coded ask.reject (newest object S.entries) ask.kind))
  where
    unless : (code : Option ℕ) → IfSome code (λ (n : ℕ). n ≢ 0) → AllByRecursion MayBePrinted (deeds_or_rejection setup S user at ask code).replies
    unless None coded = printable_deeds setup S user (account_about setup user ask.object) at (object_family ask.object) ask.deeds within good lawful sound.deeds
    unless (Some code) coded = printable_refused (object_family ask.object) code ask.deeds coded

-- ---- asks and files

printable_ask : (setup : Setup) (S : State) (user : UserId) (at : Moment) (ask : Ask) → IsWithinLimits setup → IsSoundState setup S → IsMoment at.0 → IsSoundAsk ask → IsPrintableReply (ask_answer setup S user at ask).reply
unfolding ask_answer sync_answer
printable_ask setup S user at (Statement trnuid name period) within good lawful sound =
    printable_statement setup S at trnuid name period (own_account setup user name) good lawful sound.2
printable_ask setup S user at (One trnuid deed) within good lawful sound = printable_deed setup S user None at trnuid deed within good lawful sound.1
printable_ask setup S user at (Sync ask) within good lawful sound = printable_sync setup S user at ask (object_named setup user ask.object) within good lawful sound

printable_asks : (setup : Setup) (S : State) (user : UserId) (at : Moment) (asks : List Ask) → IsWithinLimits setup → IsSoundState setup S → IsMoment at.0 → AllByRecursion IsSoundAsk asks → AllByRecursion IsPrintableReply (ask_answers setup S user at asks).replies
unfolding ask_answers
printable_asks setup S user at [] within good lawful sound = tt
printable_asks setup S user at (ask ∷ asks) within good lawful sound = (
  printable_ask setup S user at ask within good lawful sound.0,
  printable_asks setup (ask_answer setup S user at ask).after user at asks within (IsSoundState-ask setup S user at ask within good lawful sound.0) lawful sound.1,
)

-- The reply to a sound file at a lawful moment may be printed.
pub IsPrintable-reply_file : (setup : Setup) (S : State) (user : UserId) (at : Moment) (file : RequestFile) → IsWithinLimits setup → IsSoundState setup S → IsMoment at.0 → AllByRecursion IsSoundAsk file.asks → IsPrintable (reply_file at file (ask_answers setup S user at file.asks).replies)
unfolding reply_file
IsPrintable-reply_file setup S user at file within good lawful sound = record {
  moment = lawful;
  replies = printable_asks setup S user at file.asks within good lawful sound;
}

-- ---- polls

token_printable : (ask : SyncAsk) (found : Option ℕ) → AllByRecursion MayBePrinted (reported_token ask found).replies
token_printable ask None = tt
token_printable ask (Some token) = tt

poll_printable : (setup : Setup) (S : State) (user : UserId) (ask : Ask) → AllByRecursion IsPrintableReply (poll_answer setup S user ask)
poll_printable setup S user (Statement trnuid name period) = tt
poll_printable setup S user (One trnuid deed) = tt
poll_printable setup S user (Sync ask) = (token_printable ask (newest_if_any S (object_named setup user ask.object)), tt)

polls_printable : (setup : Setup) (S : State) (user : UserId) (asks : List Ask) → AllByRecursion IsPrintableReply (flat_map (poll_answer setup S user) asks)
polls_printable setup S user [] = tt
polls_printable setup S user (ask ∷ asks) =
    all_append IsPrintableReply (poll_answer setup S user ask) _ (poll_printable setup S user ask) (polls_printable setup S user asks)

-- The reply to a poll file may be printed.
pub IsPrintable-poll : (setup : Setup) (S : State) (user : UserId) (at : Moment) (file : RequestFile) → IsMoment at.0 → IsPrintable (reply_file at file (flat_map (poll_answer setup S user) file.asks))
unfolding reply_file
IsPrintable-poll setup S user at file lawful = record { moment = lawful; replies = polls_printable setup S user file.asks }

pub poll_reply-is : (setup : Setup) (S : State) (user : UserId) (at : Moment) (file : RequestFile) → reply_file at file (flat_map (poll_answer setup S user) file.asks) ≡ poll_reply setup S user at file
unfolding reply_file poll_reply
poll_reply-is setup S user at file = refl
