-- Where arguments have no form, none has one of which they are a part.
use Rattle.std.proofs.Common.{ℕ, List, Err}
use Rattle.ofx_types.specs.declared.account.AcctName.{AcctName}
use Rattle.ofx_types.specs.declared.number.Cents.{Cents}
use Rattle.ofx_types.specs.declared.recurring.Recur.{Recur}
use Rattle.ofx_types.specs.declared.transfer.XferInfo.{XferInfo}
use Rattle.client_core.specs.declared.wish.Wish.{Wish}
use Rattle.client_arguments.specs.Arguments.{IsAmountWord, IsAbout, IsOfId, IsPayment, IsTransfer, IsRepeat, IsWished, IsWishedBy, IsOrdered}
use Rattle.client_arguments.specs.Reading.{Reads}
use Rattle.client_arguments.specs.declared.fault.ArgumentsFault.{ArgumentsFault}
use Rattle.client_arguments.specs.declared.fault.ArgumentsFault.TheVariants.{Usage, OutOfMemory}
use Rattle.client_arguments.specs.declared.order.Order.{Order}
use Rattle.client_arguments.specs.declared.verb.Verb.TheVariants as verbs

pub unread : {A B : Type 0} (IsPart : A → Type 0) (IsWhole : B → Type 0) (fault : ArgumentsFault) → ((b : B) → IsWhole b → (a : A) × IsPart a)
    → Reads IsPart (Err fault) → Reads IsWhole (Err fault)
unread IsPart IsWhole Usage part none = λ b is. let found = part b is in none found.0 found.1
unread IsPart IsWhole OutOfMemory part none = tt

pub no_amount : (bank number kind other_number other_kind amount : List ℕ) (fault : ArgumentsFault) → Reads (IsAmountWord amount) (Err fault)
    → Reads (IsPayment bank number kind other_number other_kind amount) (Err fault)
no_amount bank number kind other_number other_kind amount fault none =
    unread (IsAmountWord amount) (IsPayment bank number kind other_number other_kind amount) fault (λ info is. (info.amount, is.amount_is)) none

-- ---- commands

account_wished : (bank : List ℕ) (arguments : List (List ℕ)) (wish : Wish) → IsWishedBy bank verbs.Sync arguments wish → (account : AcctName) × IsAbout bank arguments account
account_wished bank arguments wish (account, e, is) = (account, is)

pub no_sync : (bank : List ℕ) (arguments : List (List ℕ)) (fault : ArgumentsFault) → Reads (IsAbout bank arguments) (Err fault) → Reads (IsWishedBy bank verbs.Sync arguments) (Err fault)
no_sync bank arguments fault none = unread (IsAbout bank arguments) (IsWishedBy bank verbs.Sync arguments) fault (account_wished bank arguments) none

account_checked : (bank : List ℕ) (arguments : List (List ℕ)) (wish : Wish) → IsWishedBy bank verbs.Check arguments wish → (account : AcctName) × IsAbout bank arguments account
account_checked bank arguments wish (account, e, is) = (account, is)

pub no_check : (bank : List ℕ) (arguments : List (List ℕ)) (fault : ArgumentsFault) → Reads (IsAbout bank arguments) (Err fault) → Reads (IsWishedBy bank verbs.Check arguments) (Err fault)
no_check bank arguments fault none = unread (IsAbout bank arguments) (IsWishedBy bank verbs.Check arguments) fault (account_checked bank arguments) none

id_cancelled : (bank : List ℕ) (arguments : List (List ℕ)) (wish : Wish) → IsWishedBy bank verbs.Cancel arguments wish → (id : ℕ) × IsOfId arguments id
id_cancelled bank arguments wish (id, e, is) = (id, is)

pub no_cancel : (bank : List ℕ) (arguments : List (List ℕ)) (fault : ArgumentsFault) → Reads (IsOfId arguments) (Err fault) → Reads (IsWishedBy bank verbs.Cancel arguments) (Err fault)
no_cancel bank arguments fault none = unread (IsOfId arguments) (IsWishedBy bank verbs.Cancel arguments) fault (id_cancelled bank arguments) none

id_stopped : (bank : List ℕ) (arguments : List (List ℕ)) (wish : Wish) → IsWishedBy bank verbs.Stop arguments wish → (id : ℕ) × IsOfId arguments id
id_stopped bank arguments wish (id, e, is) = (id, is)

pub no_stop : (bank : List ℕ) (arguments : List (List ℕ)) (fault : ArgumentsFault) → Reads (IsOfId arguments) (Err fault) → Reads (IsWishedBy bank verbs.Stop arguments) (Err fault)
no_stop bank arguments fault none = unread (IsOfId arguments) (IsWishedBy bank verbs.Stop arguments) fault (id_stopped bank arguments) none

transfer_wished : (bank : List ℕ) (arguments : List (List ℕ)) (wish : Wish) → IsWishedBy bank verbs.Transfer arguments wish → (info : XferInfo) × IsTransfer bank arguments info
transfer_wished bank arguments wish (info, e, is) = (info, is)

pub no_transfer : (bank : List ℕ) (arguments : List (List ℕ)) (fault : ArgumentsFault) → Reads (IsTransfer bank arguments) (Err fault) → Reads (IsWishedBy bank verbs.Transfer arguments) (Err fault)
no_transfer bank arguments fault none = unread (IsTransfer bank arguments) (IsWishedBy bank verbs.Transfer arguments) fault (transfer_wished bank arguments) none

repeat_wished : (bank : List ℕ) (arguments : List (List ℕ)) (wish : Wish) → IsWishedBy bank verbs.Repeat arguments wish
    → (found : Recur × XferInfo) × IsRepeat bank arguments found.0 found.1
repeat_wished bank arguments wish (recur, info, e, is) = ((recur, info), is)

pub no_repeat : (bank : List ℕ) (arguments : List (List ℕ)) (fault : ArgumentsFault) → Reads (λ (found : Recur × XferInfo). IsRepeat bank arguments found.0 found.1) (Err fault)
    → Reads (IsWishedBy bank verbs.Repeat arguments) (Err fault)
no_repeat bank arguments fault none =
    unread (λ (found : Recur × XferInfo). IsRepeat bank arguments found.0 found.1) (IsWishedBy bank verbs.Repeat arguments) fault (repeat_wished bank arguments) none

-- ---- all arguments

pub no_wish : (port name user pass bank : List ℕ) (command : List (List ℕ)) (fault : ArgumentsFault) → Reads (IsWished bank command) (Err fault)
    → Reads (IsOrdered port name user pass bank command) (Err fault)
no_wish port name user pass bank command fault none =
    unread (IsWished bank command) (IsOrdered port name user pass bank command) fault (λ order is. (order.wish, is.wish_is)) none
