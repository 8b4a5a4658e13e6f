-- How the answers of calls relate to what the rules give, and which replies may be taken.
use Rattle.std.specs.Prelude.{◌≡◌, ℕ, Result, Ok, Err, List}
use Rattle.std.specs.Option.{IfSome}
use Rattle.std.specs.List.{AllByRecursion}
use Rattle.ofx_types.specs.declared.transfer.Change.{Change}
use Rattle.ofx_types.specs.declared.transfer.Change.TheVariants.{NewTransfer, SetTransfer, DropTransfer, NewModel, SetModel, DropModel, NewMail}
use Rattle.ofx_types.specs.declared.transfer.DeedReply.{DeedReply}
use Rattle.ofx_types.specs.declared.reply.AskReply.{AskReply}
use Rattle.ofx_types.specs.declared.reply.AskReply.TheVariants.{Statement, One, Sync}
use Rattle.bank_model.specs.Sound.{IsId}
use Rattle.client_saved.specs.Bounds.{IsSoundTransfer, IsSoundModel, IsSoundMailRow}
use Rattle.client_core.specs.declared.fault.ClientFault.{ClientFault}
use Rattle.client_core.specs.declared.fault.ClientFault.TheVariants as faults

-- A refusal is the one that the rule gives, unless memory was refused.
abbrev pub IsRefusal : {A : Type 0} → Result A ClientFault → ClientFault → Type 0
IsRefusal given faults.OutOfMemory = Unit {0}
IsRefusal given faults.BadName = given ≡ Err faults.BadName
IsRefusal given (faults.NoRow id) = given ≡ Err (faults.NoRow id)
IsRefusal given faults.NotMine = given ≡ Err faults.NotMine
IsRefusal given (faults.Signon code) = given ≡ Err (faults.Signon code)
IsRefusal given (faults.Shape number) = given ≡ Err (faults.Shape number)

-- A call answers what its rule gives.
abbrev pub FollowsRule : {A : Type 0} → Result A ClientFault → Result A ClientFault → Type 0
FollowsRule given (Ok x) = given ≡ Ok x
FollowsRule given (Err fault) = IsRefusal given fault

-- ---- replies

-- The rows that a reply brings have their values within their bounds.
abbrev pub IsSoundChange : Change → Type 0
IsSoundChange (NewTransfer row) = IsSoundTransfer row
IsSoundChange (SetTransfer row) = IsSoundTransfer row
IsSoundChange (DropTransfer id) = IsId id
IsSoundChange (NewModel row) = IsSoundModel row
IsSoundChange (SetModel row pending) = IsSoundModel row
IsSoundChange (DropModel id pending) = IsId id
IsSoundChange (NewMail row) = IsSoundMailRow row

abbrev pub IsSoundDeedReply : DeedReply → Type 0
IsSoundDeedReply reply = IfSome reply.change IsSoundChange

abbrev pub IsSoundReply : AskReply → Type 0
IsSoundReply (Statement trnuid code body) = Unit {0}
IsSoundReply (One reply) = IsSoundDeedReply reply
IsSoundReply (Sync reply) = AllByRecursion IsSoundDeedReply reply.replies
