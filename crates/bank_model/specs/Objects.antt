-- What is synchronised: the object that a name stands for, its history, its newest token, and how far back it is reported.
use Rattle.std.specs.Prelude.{ℕ, Bool, ◌-◌, ◌==◌, List, filter, fold, take, length, Option, None, Some}
use Rattle.std.specs.Option.{option_map}
use Rattle.ofx_types.specs.declared.number.AcctId.{AcctId}
use Rattle.ofx_types.specs.declared.number.ObjectId.{ObjectId}
use Rattle.ofx_types.specs.declared.number.UserId.{UserId}
use Rattle.ofx_types.specs.declared.sync.ObjectName.{ObjectName}
use Rattle.ofx_types.specs.declared.sync.ObjectName.TheVariants.{Intra, RecIntra, BankMail, Mail}
use Rattle.bank_model.specs.declared.setup.Setup.{Setup}
use Rattle.bank_model.specs.declared.entry.Entry.{Entry}
use Rattle.bank_model.specs.SetupLookups.{own_account}
use Rattle.bank_model.specs.Deeds.{intra_of, recurring_of, mail_about_of, mail_object}

-- The account of a user that a name is about. Mail about nothing in particular is about none.
abbrev pub account_about : Setup → UserId → ObjectName → Option AcctId
account_about setup user (Intra account) = own_account setup user account
account_about setup user (RecIntra account) = own_account setup user account
account_about setup user (BankMail account) = own_account setup user account
account_about setup user Mail = None

-- the object that a numbering gives an account, where there is one
abbrev pub numbered : (Option AcctId → ObjectId) → Option AcctId → Option ObjectId
numbered number account = option_map (λ (known : AcctId). number (Some known)) account

-- The object of a name for a user. There is none exactly where the name has an account that isn't the user's.
unfoldable pub object_named : Setup → UserId → ObjectName → Option ObjectId
object_named setup user (Intra account) = numbered intra_of (own_account setup user account)
object_named setup user (RecIntra account) = numbered recurring_of (own_account setup user account)
object_named setup user (BankMail account) = numbered mail_about_of (own_account setup user account)
object_named setup user Mail = Some (mail_object setup user)

-- an object's history: the entries that belong to it, in order
abbrev pub belongs_to : ObjectId → Entry → Bool
belongs_to object entry = entry.object.0 == object.0

unfoldable pub history_of : ObjectId → List Entry → List Entry
history_of object entries = filter (belongs_to object) entries

-- the number of the last entry, and a number before where there is none
abbrev pub last_number_from : ℕ → List Entry → ℕ
last_number_from before entries = fold (λ (number : ℕ) (entry : Entry). entry.number) before entries

-- the number of the last entry, 0 where there is none
abbrev pub last_number : List Entry → ℕ
last_number entries = last_number_from 0 entries

-- An object's newest token is the number of the last entry of its history.
unfoldable pub newest : ObjectId → List Entry → ℕ
newest object entries = last_number (history_of object entries)

-- The history is reported as far back as its last so many entries. Its floor is the number of the entry before them, 0 where
-- there are no more than these.
unfoldable pub floor : ℕ → ObjectId → List Entry → ℕ
floor window object entries = last_number (take (length (history_of object entries) - window) (history_of object entries))
