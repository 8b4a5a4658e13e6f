-- What mails and letters enter, by the parts that are made of them.
use Rattle.std.proofs.Common.{◌≡◌, ℕ, ◌+◌, List, [], ◌∷◌, length, codes, Option, None, Some, refl, sym, ap, ◌∙◌, subst}
use Rattle.ofx_types.specs.Calendar.{IsMoment}
use Rattle.ofx_types.specs.declared.account.AcctName.{AcctName}
use Rattle.ofx_types.specs.declared.number.ObjectId.{ObjectId}
use Rattle.ofx_types.specs.declared.number.UserId.{UserId}
use Rattle.ofx_types.specs.declared.number.Moment.{Moment}
use Rattle.ofx_types.specs.declared.mail.MailText.{MailText}
use Rattle.ofx_types.specs.declared.mail.MailRow.{MailRow}
use Rattle.ofx_types.specs.declared.transfer.Change.TheVariants.{NewMail}
use Rattle.ofx_types.specs.declared.transfer.Deed.TheVariants.{BankMail, Mail}
use Rattle.bank_model.specs.declared.entry.Entry.{Entry}
use Rattle.bank_model.specs.declared.setup.Setup.{Setup}
use Rattle.bank_model.specs.declared.event.State.{State}
use Rattle.bank_model.specs.Deeds.{mail_about_object_of, mail_object, mail_row, next_entry, done}
use Rattle.bank_model.specs.Rules.{letter, letter_entry}
use Rattle.bank_invariants.specs.SoundStates.{IsSoundState}
use Rattle.bank_invariants.specs.Next.{IsNext}
use Rattle.bank_invariants.proofs.NextLemmas.{mail_next}
use Rattle.bank_invariants.proofs.DoneLemmas.{bank_mail_entries, mail_entries}
use Rattle.bank_deeds.proofs.DeedAnswers.{entry_is}
use Rattle.bank_deeds.specs.Entries.{entry_with}

pub mail_entered : (setup : Setup) (S : State) (number : ℕ) (object : ObjectId) (trnuid : List ℕ) (row : MailRow) → IsSoundState setup S → IsMoment row.mail.created.0 → number ≡ length S.entries + 1 → IsNext setup S (entry_with number object trnuid (NewMail row))
mail_entered setup S number object trnuid row sound written is =
    subst (λ (n : ℕ). IsNext setup S (entry_with n object trnuid (NewMail row))) (sym is) (mail_next setup S object trnuid row sound written)

pub entered_is : (S : State) (number : ℕ) (object : ObjectId) (trnuid : List ℕ) (row : MailRow) → number ≡ length S.entries + 1 → entry_with number object trnuid (NewMail row) ∷ [] ≡ next_entry S object trnuid (NewMail row) ∷ []
entered_is S number object trnuid row is = ap (λ (n : ℕ). entry_with n object trnuid (NewMail row) ∷ []) is

same_entry : (S : State) (o p : ObjectId) (t u : List ℕ) (row held : MailRow) → o ≡ p → t ≡ u → row ≡ held → next_entry S o t (NewMail row) ∷ [] ≡ next_entry S p u (NewMail held) ∷ []
same_entry S o p t u row held object uid is =
    ap (λ (e : Entry). e ∷ []) (entry_is _ _ _ _ _ _ _ _ refl object uid (ap (λ (r : MailRow). NewMail r) is))

pub mail_is : (setup : Setup) (S : State) (user asked : UserId) (at : Moment) (trnuid : List ℕ) (mail : MailText) (object : ObjectId) (uid : List ℕ) (row : MailRow) → asked ≡ user → object ≡ mail_object setup asked → uid ≡ trnuid → row ≡ mail_row setup asked None mail → next_entry S object uid (NewMail row) ∷ [] ≡ done setup S user at trnuid (Mail mail)
mail_is setup S user asked at trnuid mail object uid row is is_object is_uid is_row =
    same_entry S object (mail_object setup user) uid trnuid row (mail_row setup user None mail) (is_object ∙ ap (mail_object setup) is) is_uid (is_row ∙ ap (λ (u : UserId). mail_row setup u None mail) is)
    ∙ sym (mail_entries setup S user at trnuid mail)

pub bank_mail_is : (setup : Setup) (S : State) (user asked : UserId) (at : Moment) (trnuid : List ℕ) (account name : AcctName) (mail : MailText) (object : ObjectId) (uid : List ℕ) (row : MailRow) → asked ≡ user → object ≡ mail_about_object_of setup account → uid ≡ trnuid → name ≡ account → row ≡ mail_row setup asked (Some name) mail → next_entry S object uid (NewMail row) ∷ [] ≡ done setup S user at trnuid (BankMail account mail)
bank_mail_is setup S user asked at trnuid account name mail object uid row is is_object is_uid is_name is_row =
    same_entry S object (mail_about_object_of setup account) uid trnuid row (mail_row setup user (Some account) mail) is_object is_uid
    (is_row ∙ ap (λ (u : UserId). mail_row setup u (Some name) mail) is ∙ ap (λ (n : AcctName). mail_row setup user (Some n) mail) is_name)
    ∙ sym (bank_mail_entries setup S user at trnuid account mail)

pub letter_is : (setup : Setup) (S : State) (user : UserId) (at : Moment) (subject body : List ℕ) (object : ObjectId) (uid : List ℕ) (row : MailRow) → object ≡ mail_object setup user → uid ≡ codes "0" → row ≡ letter setup user at subject body → next_entry S object uid (NewMail row) ∷ [] ≡ letter_entry setup S user at subject body ∷ []
letter_is setup S user at subject body object uid row is_object is_uid is_row =
    same_entry S object (mail_object setup user) uid (codes "0") row (letter setup user at subject body) is_object is_uid is_row

pub mail_written : (setup : Setup) (user : UserId) (about : Option AcctName) (mail : MailText) (row : MailRow) → row ≡ mail_row setup user about mail → IsMoment mail.created.0 → IsMoment row.mail.created.0
mail_written setup user about mail row is written = subst (λ (r : MailRow). IsMoment r.mail.created.0) (sym is) written

pub letter_written : (setup : Setup) (user : UserId) (at : Moment) (subject body : List ℕ) (row : MailRow) → row ≡ letter setup user at subject body → IsMoment at.0 → IsMoment row.mail.created.0
letter_written setup user at subject body row is moment = subst (λ (r : MailRow). IsMoment r.mail.created.0) (sym is) moment
