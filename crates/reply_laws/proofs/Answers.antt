-- The answers to deeds are sound, and the history may be reported after them.
use Rattle.std.proofs.Common.{◌≡◌, ◌≢◌, ℕ, ◌<◌, ◌≤◌, ◌⊎◌, inl, inr, Bool, true, false, cond, eqb, List, [], ◌∷◌, ◌++◌, length, map, Option, None, Some, refl, sym, ◌∙◌, subst, arith}
use Rattle.std.specs.List.{AllByRecursion}
use Rattle.std.proofs.lemmas.Bool.{eqb-true, eq-eqb}
use Rattle.ofx_types.specs.Calendar.{IsMoment, IsDay}
use Rattle.ofx_types.specs.DeedForm.{family_of}
use Rattle.ofx_types.specs.declared.number.AcctId.{AcctId}
use Rattle.ofx_types.specs.declared.number.Day.{Day}
use Rattle.ofx_types.specs.declared.number.Moment.{Moment}
use Rattle.ofx_types.specs.declared.number.UserId.{UserId}
use Rattle.ofx_types.specs.declared.account.AcctName.{AcctName}
use Rattle.ofx_types.specs.declared.transfer.Deed.{Deed}
use Rattle.ofx_types.specs.declared.transfer.DeedReply.{DeedReply}
use Rattle.ofx_types.specs.declared.transfer.Change.{Change}
use Rattle.ofx_types.specs.declared.transfer.Change.TheVariants.{NewTransfer, SetTransfer, DropTransfer, NewModel, SetModel, DropModel, NewMail}
use Rattle.ofx_types.specs.declared.transfer.Family.{Family}
use Rattle.ofx_types.specs.declared.transfer.Family.TheVariants as families
use Rattle.bank_model.specs.declared.entry.Entry.{Entry}
use Rattle.bank_model.specs.declared.setup.Setup.{Setup}
use Rattle.bank_model.specs.declared.event.State.{State}
use Rattle.bank_model.specs.SetupForm.{IsWithinLimits}
use Rattle.bank_model.specs.Deeds.{done, code_of, added, first_change, after_deed, deed_answer}
use Rattle.bank_model.specs.Sync.{reply_with_change, refused_with, deed_answers}
use Rattle.bank_model.specs.Sound as file
use Rattle.sync_laws.proofs.Events.{Grows, grows_deed}
use Rattle.bank_model.proofs.Lists.{all_append}
use Rattle.bank_invariants.proofs.StateLemmas.{IsAllowed-from_code}
use Rattle.msg_parts.specs.SoundParts.{IsTextWithin, mail_family, family_of_change}
use Rattle.msg_sync.specs.SoundSyncs.{IsSoundAnswer, IsSoundReportedIn}
use Rattle.reply_laws.specs.Reportable.{IsReportedChange, IsReportedEntry, IsReportable}
use Rattle.reply_laws.proofs.Values.{uid_within}
use Rattle.reply_laws.proofs.Verdicts.{code_short}
use Rattle.reply_laws.proofs.Deeds.{Begins, done_begins}

-- ---- single answers

letter_family : (about : Option AcctName) (family : Family) → mail_family about ≡ family → (family ≡ families.BankMail) ⊎ (family ≡ families.Mail)
letter_family None family is = inr (sym is)
letter_family (Some account) family is = inl (sym is)

-- A change that may be reported is a sound answer of its family.
pub reported_sound : (trnuid : List ℕ) (family : Family) (change : Change) → IsTextWithin 36 trnuid → IsReportedChange change → family_of_change change ≡ family → IsSoundAnswer (reply_with_change family trnuid change)
reported_sound trnuid family (NewTransfer row) uid reported is = inl (record { is_uid = uid; is_family = inl (sym is); is_code = omega arith; is_change = (refl, is, reported) })
reported_sound trnuid family (SetTransfer row) uid reported is = inl (record { is_uid = uid; is_family = inl (sym is); is_code = omega arith; is_change = (refl, is, reported.0) })
reported_sound trnuid family (DropTransfer id) uid reported is = inl (record { is_uid = uid; is_family = inl (sym is); is_code = omega arith; is_change = (refl, is, reported) })
reported_sound trnuid family (NewModel row) uid reported is = inl (record { is_uid = uid; is_family = inr (sym is); is_code = omega arith; is_change = (refl, is, reported) })
reported_sound trnuid family (SetModel row also) uid reported is = inl (record { is_uid = uid; is_family = inr (sym is); is_code = omega arith; is_change = (refl, is, reported) })
reported_sound trnuid family (DropModel id also) uid reported is = inl (record { is_uid = uid; is_family = inr (sym is); is_code = omega arith; is_change = (refl, is, reported) })
reported_sound trnuid family (NewMail row) uid reported is = inr (record { is_uid = uid; is_family = letter_family row.about family is; is_code = omega arith; is_mail = (refl, is, reported) })

-- An answer without a change has a code.
abbrev pub without_change : List ℕ → Family → ℕ → DeedReply
without_change trnuid family code = record { trnuid = trnuid; family = family; code = code; change = None }

pub refused_sound : (trnuid : List ℕ) (family : Family) (code : ℕ) → IsTextWithin 36 trnuid → code ≢ 0 → code ≤ 65535 → IsSoundAnswer (without_change trnuid family code)
refused_sound trnuid families.Intra code uid some short = inl (record { is_uid = uid; is_family = inl refl; is_code = short; is_change = some })
refused_sound trnuid families.RecIntra code uid some short = inl (record { is_uid = uid; is_family = inr refl; is_code = short; is_change = some })
refused_sound trnuid families.BankMail code uid some short = inr (record { is_uid = uid; is_family = inl refl; is_code = short; is_mail = some })
refused_sound trnuid families.Mail code uid some short = inr (record { is_uid = uid; is_family = inr refl; is_code = short; is_mail = some })

-- ---- a deed

-- A user of the setup asks something at a moment, in a state whose history may be reported.
pub record MayAsk (setup : Setup) (S : State) (user : UserId) (at : Moment) : Type 0 where
  pub within : IsWithinLimits setup
  pub reportable : IsReportable setup S
  pub moment : IsMoment at.0
  pub known : user.0 < length setup.users

pub reportable_by : (setup : Setup) (S T : State) (more : List Entry) → Grows setup S T → T.entries ≡ S.entries ++ more → AllByRecursion (IsReportedEntry setup) more → T.day ≡ S.day → IsReportable setup S → IsReportable setup T
reportable_by setup S T more grows are reported same reportable = record {
  order = grows.order reportable.order;
  entries = subst (AllByRecursion (IsReportedEntry setup)) (sym are) (all_append (IsReportedEntry setup) S.entries more reportable.entries reported);
  day = subst (λ (day : Day). IsDay day.0) (sym same) reportable.day;
}

pub may_still : (setup : Setup) (S T : State) (user : UserId) (at : Moment) → MayAsk setup S user at → IsReportable setup T → MayAsk setup T user at
may_still setup S T user at may reportable = record { within = may.within; reportable = reportable; moment = may.moment; known = may.known }

allowed_begins : (setup : Setup) (S : State) (user : UserId) (only : Option AcctId) (at : Moment) (trnuid : List ℕ) (deed : Deed) → MayAsk setup S user at → file.IsSoundDeed deed → IsTextWithin 36 trnuid → code_of setup S user only at trnuid deed ≡ 0 → Begins setup (family_of deed) (done setup S user at trnuid deed)
allowed_begins setup S user only at trnuid deed may sound uid none =
    let allowed = IsAllowed-from_code setup S user only at trnuid deed none in
    done_begins setup S user only at trnuid deed may.within may.reportable may.moment may.known sound uid allowed.judged allowed.few

added_reported : (setup : Setup) (S : State) (user : UserId) (at : Moment) (trnuid : List ℕ) (deed : Deed) (code : ℕ) → (code ≡ 0 → Begins setup (family_of deed) (done setup S user at trnuid deed)) → AllByRecursion (IsReportedEntry setup) (added setup S user at trnuid deed code)
added_reported setup S user at trnuid deed code allowed = by_code (eqb code 0) refl
  where
    by_code : (zero : Bool) → eqb code 0 ≡ zero → AllByRecursion (IsReportedEntry setup) (cond zero (done setup S user at trnuid deed) [])
    by_code true is = let here = allowed (eqb-true code 0 is) in subst (AllByRecursion (IsReportedEntry setup)) (sym here.are) (here.first, here.more)
    by_code false is = tt

pub reportable_deed : (setup : Setup) (S : State) (user : UserId) (only : Option AcctId) (at : Moment) (trnuid : List ℕ) (deed : Deed) → MayAsk setup S user at → file.IsSoundDeed deed → IsTextWithin 36 trnuid → IsReportable setup (deed_answer setup S user only at trnuid deed).after
unfolding deed_answer
reportable_deed setup S user only at trnuid deed may sound uid =
    let code : ℕ = code_of setup S user only at trnuid deed in
    reportable_by setup S (after_deed S user trnuid code (added setup S user at trnuid deed code)) (added setup S user at trnuid deed code) (grows_deed setup S user only at trnuid deed) refl
    (added_reported setup S user at trnuid deed code (allowed_begins setup S user only at trnuid deed may sound uid)) refl may.reportable

deed_reply : (setup : Setup) (S : State) (user : UserId) (at : Moment) (trnuid : List ℕ) (deed : Deed) (code : ℕ) → IsTextWithin 36 trnuid → code ≤ 65535 → (code ≡ 0 → Begins setup (family_of deed) (done setup S user at trnuid deed)) → IsSoundAnswer (record { trnuid = trnuid; family = family_of deed; code = code; change = first_change (added setup S user at trnuid deed code) })
deed_reply setup S user at trnuid deed code uid short allowed = by_code (eqb code 0) refl
  where
    reply_with : ℕ → List Entry → DeedReply
    reply_with n entries = record { trnuid = trnuid; family = family_of deed; code = n; change = first_change entries }

    by_code : (zero : Bool) → eqb code 0 ≡ zero → IsSoundAnswer (reply_with code (cond zero (done setup S user at trnuid deed) []))
    by_code true is =
        let none : code ≡ 0 = eqb-true code 0 is in
        let here = allowed none in
        subst (λ (n : ℕ). IsSoundAnswer (reply_with n (done setup S user at trnuid deed))) (sym none)
        (subst (λ (l : List Entry). IsSoundAnswer (reply_with 0 l)) (sym here.are) (reported_sound trnuid (family_of deed) here.entry.change uid here.first.change here.is_of))
    by_code false is = refused_sound trnuid (family_of deed) code uid (λ none. (let same : eqb code 0 ≡ true = eq-eqb code 0 none in cc)) short

-- The answer to a deed is sound, and of the deed's family.
pub deed_sound : (setup : Setup) (S : State) (user : UserId) (only : Option AcctId) (at : Moment) (trnuid : List ℕ) (deed : Deed) → MayAsk setup S user at → file.IsSoundDeed deed → IsTextWithin 36 trnuid → IsSoundReportedIn (family_of deed) (deed_answer setup S user only at trnuid deed).reply
unfolding deed_answer
deed_sound setup S user only at trnuid deed may sound uid =
    let code : ℕ = code_of setup S user only at trnuid deed in
    (deed_reply setup S user at trnuid deed code uid (code_short setup S user only at trnuid deed) (allowed_begins setup S user only at trnuid deed may sound uid), refl)

-- ---- deeds one after another

pub deeds_sound : (setup : Setup) (S : State) (user : UserId) (only : Option AcctId) (at : Moment) (family : Family) (deeds : List (List ℕ × Deed)) → MayAsk setup S user at → AllByRecursion (file.IsSoundPair family) deeds → AllByRecursion (IsSoundReportedIn family) (deed_answers setup S user only at deeds).replies
unfolding deed_answers
deeds_sound setup S user only at family [] may sound = tt
deeds_sound setup S user only at family (deed ∷ deeds) may sound =
    let uid = uid_within deed.0 sound.0.0.1 in
    let next : State = (deed_answer setup S user only at deed.0 deed.1).after in
    let here = deed_sound setup S user only at deed.0 deed.1 may sound.0.1 uid in
    let after = reportable_deed setup S user only at deed.0 deed.1 may sound.0.1 uid in
    ((here.0, here.1 ∙ sound.0.2), deeds_sound setup next user only at family deeds (may_still setup S next user at may after) sound.1)

-- deeds that are refused with all others
pub all_refused : (family : Family) (code : ℕ) (deeds : List (List ℕ × Deed)) → code ≢ 0 → code ≤ 65535 → AllByRecursion (file.IsSoundPair family) deeds → AllByRecursion (IsSoundReportedIn family) (map (refused_with family code) deeds)
all_refused family code [] some short sound = tt
all_refused family code (deed ∷ deeds) some short sound =
    ((refused_sound deed.0 family code (uid_within deed.0 sound.0.0.1) some short, refl), all_refused family code deeds some short sound.1)
