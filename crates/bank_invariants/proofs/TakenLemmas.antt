-- A transfer, or a recurring transfer, with which nothing is wrong gets code 0 and its entry.
use Rattle.std.proofs.Common.{◌≡◌, ℕ, ◌+◌, ◌≤◌, Bool, true, false, not, ◌&&◌, cond, List, [], ◌∷◌, ◌++◌, length, Option, None, Some, ℤ, ◌≤ℤ◌, refl, sym, ap, ◌∙◌, subst, append_assoc, arith}
use Rattle.std.specs.Prelude.{is_some}
use Rattle.std.proofs.lemmas.Bool.{le-ltb}
use Rattle.std.proofs.lemmas.Int.{ints}
use Rattle.ofx_types.specs.AccountForm.{same_account}
use Rattle.ofx_types.specs.DeedForm.{family_of}
use Rattle.ofx_types.specs.ReplyForm.{reply_text}
use Rattle.ofx_types.specs.SyncForm.{object_family}
use Rattle.ofx_types.specs.declared.number.AcctId.{AcctId}
use Rattle.ofx_types.specs.declared.number.Moment.{Moment}
use Rattle.ofx_types.specs.declared.number.ObjectId.{ObjectId}
use Rattle.ofx_types.specs.declared.number.UserId.{UserId}
use Rattle.ofx_types.specs.declared.account.AcctName.{AcctName}
use Rattle.ofx_types.specs.declared.recurring.Recur.{Recur}
use Rattle.ofx_types.specs.declared.transfer.XferInfo.{XferInfo}
use Rattle.ofx_types.specs.declared.transfer.Deed.{Deed}
use Rattle.ofx_types.specs.declared.transfer.Deed.TheVariants.{Transfer, Model}
use Rattle.ofx_types.specs.declared.transfer.DeedReply.{DeedReply}
use Rattle.ofx_types.specs.declared.transfer.Family.{Family}
use Rattle.ofx_types.specs.declared.transfer.Family.TheVariants as families
use Rattle.ofx_types.specs.declared.sync.ObjectName.{ObjectName}
use Rattle.ofx_types.specs.declared.sync.ObjectName.TheVariants as objects
use Rattle.ofx_types.specs.declared.sync.SyncAsk.{SyncAsk}
use Rattle.ofx_types.specs.declared.request.Ask.{Ask}
use Rattle.ofx_types.specs.declared.request.Ask.TheVariants.{One, Sync}
use Rattle.ofx_types.specs.declared.request.RequestFile.{RequestFile}
use Rattle.bank_model.specs.declared.entry.Entry.{Entry}
use Rattle.bank_model.specs.declared.setup.Setup.{Setup}
use Rattle.bank_model.specs.declared.event.State.{State}
use Rattle.bank_model.specs.declared.event.Event.TheVariants.{File}
use Rattle.bank_model.specs.SetupLookups.{account_of, own_account, if_owned, is_owner}
use Rattle.bank_model.specs.Ledger.{balance, is_covered}
use Rattle.bank_model.specs.Judging.{Refusal, refused, first_of, is_only, is_own, is_own_account, is_destination, is_positive, is_due, is_after, transfer_code, model_code}
use Rattle.bank_model.specs.Deeds.{DeedAnswer, balance_if_any, source_balance, intra_of, recurring_of, mail_about_of, judged, done, is_full, unless_full, first_change, code_of, after_deed, answer_with, deed_answer}
use Rattle.bank_model.specs.Objects.{account_about, numbered, object_named, newest}
use Rattle.bank_model.specs.Sync.{DeedAnswers, SyncAnswer, reply_with_change, rejection, deed_answers, deeds_or_rejection, history_replies, sync_on, sync_answer}
use Rattle.bank_model.specs.Once.{is_used}
use Rattle.bank_model.specs.Rules.{AskAnswer, AskAnswers, Outcome, raised, ask_answer, ask_answers, reply_file, kept_for, new_outcome, outcome_or_kept, file_outcome, state_after, answer_to}
use Rattle.bank_invariants.specs.AnsweredAsks.{MayTransfer, MayRecur, transfer_entry, recurring_entry, taken_with, reached, Reports, TakesInStep}
use Rattle.bank_invariants.proofs.DeedLemmas.{taken_entry, transfer_entries, model_entry, model_entries}
use Rattle.bank_invariants.proofs.RunLaws.{kept_for-raised}
use Rattle.bank_invariants.proofs.UidSteps.{adds_deeds, adds_asks}

-- ---- nothing is refused

owned_parts : (setup : Setup) (user : UserId) (found : Option AcctId) (source : AcctId) → if_owned setup user found ≡ Some source → (found ≡ Some source) × (is_owner setup user source ≡ true)
owned_parts setup user None source is = cc
owned_parts setup user (Some account) source is = by_owner (is_owner setup user account) refl is
  where
    by_owner : (owner : Bool) → is_owner setup user account ≡ owner → cond owner (Some account) None ≡ Some source → (Some account ≡ Some source) × (is_owner setup user source ≡ true)
    by_owner true is found = (found, (let same : account ≡ source = cc in sym (ap (is_owner setup user) same) ∙ is))
    by_owner false is found = cc

own_is : (setup : Setup) (user : UserId) (only : Option AcctId) (source : AcctId) (name : AcctName) → is_only only source ≡ true → own_account setup user name ≡ Some source → is_own setup user only name ≡ true
own_is setup user only source name alone own =
    let parts = owned_parts setup user (account_of setup name) source own in
    ap (is_own_account setup user only) parts.0 ∙ both (is_owner setup user source) (is_only only source) parts.1 alone
  where
    both : (a b : Bool) → a ≡ true → b ≡ true → (a && b) ≡ true
    both true true first second = refl
    both true false first second = second
    both false b first second = first

destination_is : (setup : Setup) (info : XferInfo) → is_some (account_of setup info.to) ≡ true → same_account info.to info.from ≡ false → is_destination setup info ≡ true
destination_is setup info to apart = rw (to, apart) refl

cover_is : (amount balance : ℤ) (due : Bool) → (due ≡ true → amount ≤ℤ balance) → (due && not (is_covered amount balance)) ≡ false
cover_is amount balance false covered = refl
cover_is amount balance true covered = let enough = covered refl in grind (arith, ints)

four : (own to positive : Bool) (last : Refusal) → own ≡ true → to ≡ true → positive ≡ true → last.holds ≡ false → first_of (refused 2006 (not own) ∷ refused 2009 (not to) ∷ refused 2012 (not positive) ∷ last ∷ []) ≡ 0
four own to positive last is_own is_to is_positive_so none = rw (is_own, is_to, is_positive_so, none) refl

unrefused_transfer : (setup : Setup) (S : State) (user : UserId) (only : Option AcctId) (source : AcctId) (info : XferInfo) → is_only only source ≡ true → MayTransfer setup S user source info → judged setup S user only (Transfer info) ≡ 0
unfolding judged transfer_code
unrefused_transfer setup S user only source info alone may =
    let found = (owned_parts setup user (account_of setup info.from) source may.terms.from).0 in
    four (is_own setup user only info.from) (is_destination setup info) (is_positive info) (refused 10504 (is_due info S.day && not (is_covered info.amount.0 (source_balance setup S info))))
    (own_is setup user only source info.from alone may.terms.from)
    (destination_is setup info may.terms.to may.terms.apart)
    may.terms.positive
    (cover_is info.amount.0 (source_balance setup S info) (is_due info S.day)
    (λ due. subst (λ (account : Option AcctId). info.amount.0 ≤ℤ balance_if_any setup S.entries account) (sym found) (may.covered due)))

unrefused_model : (setup : Setup) (S : State) (user : UserId) (only : Option AcctId) (source : AcctId) (recur : Recur) (info : XferInfo) → is_only only source ≡ true → MayRecur setup S user source info → judged setup S user only (Model recur info) ≡ 0
unfolding judged model_code
unrefused_model setup S user only source recur info alone may =
    four (is_own setup user only info.from) (is_destination setup info) (is_positive info) (refused 2014 (not (is_after info.due S.day)))
    (own_is setup user only source info.from alone may.terms.from)
    (destination_is setup info may.terms.to may.terms.apart)
    may.terms.positive
    (ap not may.later)

-- ---- code 0 and the entry

deed_taken : (setup : Setup) (S : State) (user : UserId) (only : Option AcctId) (at : Moment) (trnuid : List ℕ) (what : Deed) (entry : Entry) → is_used user trnuid S.used ≡ false → judged setup S user only what ≡ 0 → done setup S user at trnuid what ≡ entry ∷ [] → length S.entries + 1 ≤ setup.entries → deed_answer setup S user only at trnuid what ≡ taken_with S user trnuid (family_of what) entry
unfolding deed_answer code_of
deed_taken setup S user only at trnuid what entry unused none does number =
    let count : length S.entries + length (done setup S user at trnuid what) ≡ length S.entries + 1 = ap (λ (l : List Entry). length S.entries + length l) does in
    let full : is_full setup (length S.entries + length (done setup S user at trnuid what)) ≡ false = ap (is_full setup) count ∙ le-ltb setup.entries (length S.entries + 1) number in
    ap (answer_with setup S user at trnuid what) (zero (is_used user trnuid S.used) (is_full setup (length S.entries + length (done setup S user at trnuid what))) (judged setup S user only what) unused full none)
    ∙ ap (λ (l : List Entry). answer_of l) does
  where
    zero : (used full : Bool) (code : ℕ) → used ≡ false → full ≡ false → code ≡ 0 → cond used 2019 (unless_full full code) ≡ 0
    zero used full code is_unused is_not_full is_zero = rw (is_unused, is_not_full, is_zero) refl

    answer_of : List Entry → DeedAnswer
    answer_of entries = record {
      reply = record { trnuid = trnuid; family = family_of what; code = 0; change = first_change entries };
      after = after_deed S user trnuid 0 entries;
    }

pub transfer_taken : (setup : Setup) (S : State) (user : UserId) (only : Option AcctId) (source : AcctId) (at : Moment) (trnuid : List ℕ) (info : XferInfo) → is_only only source ≡ true → is_used user trnuid S.used ≡ false → MayTransfer setup S user source info → deed_answer setup S user only at trnuid (Transfer info) ≡ taken_with S user trnuid families.Intra (transfer_entry S source at trnuid info)
transfer_taken setup S user only source at trnuid info alone unused may =
    let found = (owned_parts setup user (account_of setup info.from) source may.terms.from).0 in
    deed_taken setup S user only at trnuid (Transfer info) (transfer_entry S source at trnuid info) unused
    (unrefused_transfer setup S user only source info alone may)
    (transfer_entries setup S user at trnuid info
    ∙ ap (λ (account : Option AcctId). record { number = length S.entries + 1; object = intra_of account; trnuid = trnuid; change = (taken_entry setup S at trnuid info).change } ∷ []) found)
    may.terms.number

pub model_taken : (setup : Setup) (S : State) (user : UserId) (only : Option AcctId) (source : AcctId) (at : Moment) (trnuid : List ℕ) (recur : Recur) (info : XferInfo) → is_only only source ≡ true → is_used user trnuid S.used ≡ false → MayRecur setup S user source info → deed_answer setup S user only at trnuid (Model recur info) ≡ taken_with S user trnuid families.RecIntra (recurring_entry S source trnuid recur info)
model_taken setup S user only source at trnuid recur info alone unused may =
    let found = (owned_parts setup user (account_of setup info.from) source may.terms.from).0 in
    deed_taken setup S user only at trnuid (Model recur info) (recurring_entry S source trnuid recur info) unused
    (unrefused_model setup S user only source recur info alone may)
    (model_entries setup S user at trnuid recur info
    ∙ ap (λ (account : Option AcctId). record { number = length S.entries + 1; object = recurring_of account; trnuid = trnuid; change = (model_entry setup S trnuid recur info).change } ∷ []) found)
    may.terms.number

-- ---- among the deeds of a synchronisation

both_deeds : (setup : Setup) (S : State) (user : UserId) (only : Option AcctId) (at : Moment) (first last : List (List ℕ × Deed)) → deed_answers setup S user only at (first ++ last) ≡ record { replies = (deed_answers setup S user only at first).replies ++ (deed_answers setup (deed_answers setup S user only at first).after user only at last).replies; after = (deed_answers setup (deed_answers setup S user only at first).after user only at last).after }
unfolding deed_answers
both_deeds setup S user only at [] last = refl
both_deeds setup S user only at (one ∷ first) last =
    let next = deed_answer setup S user only at one.0 one.1 in
    ap (λ (rest : DeedAnswers). record { replies = next.reply ∷ rest.replies; after = rest.after }) (both_deeds setup next.after user only at first last)

-- How an ask takes a deed: what its reply says, and the entry that its state has.
pub record TakesInAsk (setup : Setup) (S : State) (user : UserId) (at : Moment) (ask : Ask) (there : State) (reported : DeedReply) (entry : Entry) : Type 0 where
  pub reports : Reports (ask_answer setup S user at ask).reply reported
  pub more : List Entry
  pub entries : (ask_answer setup S user at ask).after.entries ≡ there.entries ++ entry ∷ more

pub alone_takes : (setup : Setup) (S : State) (user : UserId) (at : Moment) (trnuid : List ℕ) (what : Deed) (family : Family) (entry : Entry) → deed_answer setup S user None at trnuid what ≡ taken_with S user trnuid family entry → TakesInAsk setup S user at (One trnuid what) S (reply_with_change family trnuid entry.change) entry
unfolding ask_answer
alone_takes setup S user at trnuid what family entry takes = record {
  reports = ap (λ (answer : DeedAnswer). answer.reply) takes;
  more = [];
  entries = ap (λ (answer : DeedAnswer). answer.after.entries) takes;
}

-- the object of an account of the user is there
object_there : (setup : Setup) (user : UserId) (name : ObjectName) (source : AcctId) → account_about setup user name ≡ Some source → (object : ObjectId) × (object_named setup user name ≡ Some object)
unfolding object_named
object_there setup user (objects.Intra account) source about = (intra_of (Some source), ap (numbered intra_of) about)
object_there setup user (objects.RecIntra account) source about = (recurring_of (Some source), ap (numbered recurring_of) about)
object_there setup user (objects.BankMail account) source about = (mail_about_of (Some source), ap (numbered mail_about_of) about)
object_there setup user objects.Mail source about = cc

-- the answer of a synchronisation that refuses no deed for what its client missed
unrejected : (setup : Setup) (S : State) (user : UserId) (at : Moment) (ask : SyncAsk) (source : AcctId) → account_about setup user ask.object ≡ Some source → ask.reject ≡ false → (history : List DeedReply) × ((sync_answer setup S user at ask).reply.replies ≡ history ++ (deed_answers setup S user (Some source) at ask.deeds).replies) × ((sync_answer setup S user at ask).after ≡ (deed_answers setup S user (Some source) at ask.deeds).after)
unfolding sync_answer sync_on deeds_or_rejection
unrejected setup S user at ask source about reject =
    let object = object_there setup user ask.object source about in
    let history : List DeedReply = history_replies setup.window object.0 (object_family ask.object) S.entries ask.kind in
    let answers : deeds_or_rejection setup S user at ask (rejection ask.reject (newest object.0 S.entries) ask.kind) ≡ deed_answers setup S user (Some source) at ask.deeds =
    ap (λ (b : Bool). deeds_or_rejection setup S user at ask (rejection b (newest object.0 S.entries) ask.kind)) reject
    ∙ ap (λ (only : Option AcctId). deed_answers setup S user only at ask.deeds) about in
    let is : sync_answer setup S user at ask ≡ sync_on setup S user at ask (Some object.0) = ap (sync_on setup S user at ask) object.1 in (
      history,
      ap (λ (answer : SyncAnswer). answer.reply.replies) is ∙ ap (λ (given : DeedAnswers). history ++ given.replies) answers,
      ap (λ (answer : SyncAnswer). answer.after) is ∙ ap (λ (given : DeedAnswers). given.after) answers,
    )

sync_takes : (setup : Setup) (S : State) (user : UserId) (at : Moment) (ask : SyncAsk) (source : AcctId) (first last : List (List ℕ × Deed)) (trnuid : List ℕ) (what : Deed) (family : Family) (entry : Entry) → account_about setup user ask.object ≡ Some source → ask.reject ≡ false → ask.deeds ≡ first ++ (trnuid, what) ∷ last → deed_answer setup (deed_answers setup S user (Some source) at first).after user (Some source) at trnuid what ≡ taken_with (deed_answers setup S user (Some source) at first).after user trnuid family entry → TakesInAsk setup S user at (Sync ask) (deed_answers setup S user (Some source) at first).after (reply_with_change family trnuid entry.change) entry
unfolding ask_answer deed_answers
sync_takes setup S user at ask source first last trnuid what family entry about reject are takes =
    let answered = unrejected setup S user at ask source about reject in
    let prefix : DeedAnswers = deed_answers setup S user (Some source) at first in
    let next : DeedAnswer = deed_answer setup prefix.after user (Some source) at trnuid what in
    let rest : DeedAnswers = deed_answers setup next.after user (Some source) at last in
    let all : deed_answers setup S user (Some source) at ask.deeds ≡ record { replies = prefix.replies ++ next.reply ∷ rest.replies; after = rest.after } =
    ap (deed_answers setup S user (Some source) at) are ∙ both_deeds setup S user (Some source) at first ((trnuid, what) ∷ last) in
    let later = adds_deeds setup next.after user (Some source) at last in
    record {
      reports = (
        answered.0 ++ prefix.replies,
        rest.replies,
        answered.1 ∙ ap (λ (given : DeedAnswers). answered.0 ++ given.replies) all
            ∙ sym (append_assoc answered.0 prefix.replies (next.reply ∷ rest.replies))
            ∙ ap (λ (answer : DeedAnswer). (answered.0 ++ prefix.replies) ++ answer.reply ∷ rest.replies) takes,
      );
      more = later.added;
      entries =
          ap (λ (T : State). T.entries) answered.2 ∙ ap (λ (given : DeedAnswers). given.after.entries) all
          ∙ later.entries
          ∙ ap (λ (answer : DeedAnswer). answer.after.entries ++ later.added) takes
          ∙ append_assoc prefix.after.entries (entry ∷ []) later.added;
    }

-- The state in which the deed is answered may be given by another name.
pub sync_takes_at : (setup : Setup) (S T : State) (user : UserId) (at : Moment) (ask : SyncAsk) (source : AcctId) (first last : List (List ℕ × Deed)) (trnuid : List ℕ) (what : Deed) (family : Family) (entry : Entry) → account_about setup user ask.object ≡ Some source → ask.reject ≡ false → ask.deeds ≡ first ++ (trnuid, what) ∷ last → (deed_answers setup S user (Some source) at first).after ≡ T → deed_answer setup T user (Some source) at trnuid what ≡ taken_with T user trnuid family entry → TakesInAsk setup S user at (Sync ask) T (reply_with_change family trnuid entry.change) entry
sync_takes_at setup S T user at ask source first last trnuid what family entry about reject are is takes =
    let at_prefix = subst (λ (U : State). deed_answer setup U user (Some source) at trnuid what ≡ taken_with U user trnuid family entry) (sym is) takes in
    subst (λ (U : State). TakesInAsk setup S user at (Sync ask) U (reply_with_change family trnuid entry.change) entry) is
    (sync_takes setup S user at ask source first last trnuid what family entry about reject are at_prefix)

-- ---- among the asks of a file

both_asks : (setup : Setup) (S : State) (user : UserId) (at : Moment) (first last : List Ask) → ask_answers setup S user at (first ++ last) ≡ record { replies = (ask_answers setup S user at first).replies ++ (ask_answers setup (ask_answers setup S user at first).after user at last).replies; after = (ask_answers setup (ask_answers setup S user at first).after user at last).after }
unfolding ask_answers
both_asks setup S user at [] last = refl
both_asks setup S user at (ask ∷ first) last =
    let next = ask_answer setup S user at ask in
    ap (λ (rest : AskAnswers). record { replies = next.reply ∷ rest.replies; after = rest.after }) (both_asks setup next.after user at first last)

anew : (setup : Setup) (S : State) (user : UserId) (at : Moment) (file : RequestFile) → kept_for (raised S at) user file.newer ≡ None → (answer_to setup S at (File user file) ≡ reply_text (reply_file at file (ask_answers setup (raised S at) user at file.asks).replies)) × ((state_after setup S at (File user file)).entries ≡ (ask_answers setup (raised S at) user at file.asks).after.entries)
unfolding file_outcome new_outcome
anew setup S user at file absent =
    let is = ap (outcome_or_kept setup (raised S at) user at file) absent in
    (ap (λ (outcome : Outcome). outcome.reply) is, ap (λ (outcome : Outcome). outcome.after.entries) is)

-- An ask of a file that isn't kept is answered in the state that the asks before it left.
pub step_takes : (setup : Setup) (S : State) (at : Moment) (user : UserId) (file : RequestFile) (before more : List Ask) (ask : Ask) (there : State) (reported : DeedReply) (entry : Entry) → kept_for S user file.newer ≡ None → file.asks ≡ before ++ ask ∷ more → TakesInAsk setup (reached setup S user at before) user at ask there reported entry → TakesInStep setup S at user file there reported entry
unfolding ask_answers
step_takes setup S at user file before more ask there reported entry absent are takes =
    let outcome = anew setup S user at file (kept_for-raised S user at file.newer ∙ absent) in
    let prefix : AskAnswers = ask_answers setup (raised S at) user at before in
    let next : AskAnswer = ask_answer setup prefix.after user at ask in
    let rest : AskAnswers = ask_answers setup next.after user at more in
    let all : ask_answers setup (raised S at) user at file.asks ≡ record { replies = prefix.replies ++ next.reply ∷ rest.replies; after = rest.after } =
    ap (ask_answers setup (raised S at) user at) are ∙ both_asks setup (raised S at) user at before (ask ∷ more) in
    let later = adds_asks setup next.after user at more in
    record {
      prefix = prefix.replies;
      reply = next.reply;
      back = rest.replies;
      answer = outcome.0 ∙ ap (λ (given : AskAnswers). reply_text (reply_file at file given.replies)) all;
      reports = takes.reports;
      more = takes.more ++ later.added;
      entries =
          outcome.1 ∙ ap (λ (given : AskAnswers). given.after.entries) all
          ∙ later.entries
          ∙ ap (λ (entries : List Entry). entries ++ later.added) takes.entries
          ∙ append_assoc there.entries (entry ∷ takes.more) later.added;
    }
