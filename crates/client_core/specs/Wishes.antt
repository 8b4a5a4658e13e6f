-- What a user wishes, and what a file has to ask for it.
use Rattle.std.specs.Prelude.{◌≡◌, ℕ, ◌≤◌, unsigned_abs, ◌==◌, Bool, true, List, [], ◌∷◌, codes, Option, None, Some, Result, Ok, Err}
use Rattle.std.specs.List.{find}
use Rattle.std.specs.Option.{option_or}
use Rattle.ofx_types.specs.Calendar.{IsDay}
use Rattle.ofx_types.specs.declared.account.AcctName.{AcctName}
use Rattle.ofx_types.specs.declared.number.Moment.{Moment}
use Rattle.ofx_types.specs.declared.number.Cents.{Cents}
use Rattle.ofx_types.specs.declared.number.Day.{Day}
use Rattle.ofx_types.specs.declared.transfer.TransferRow.{TransferRow}
use Rattle.ofx_types.specs.declared.transfer.XferInfo.{XferInfo}
use Rattle.ofx_types.specs.declared.transfer.Deed.{Deed}
use Rattle.ofx_types.specs.declared.transfer.Deed.TheVariants as deeds
use Rattle.ofx_types.specs.declared.recurring.ModelRow.{ModelRow}
use Rattle.ofx_types.specs.declared.sync.ObjectName.{ObjectName}
use Rattle.ofx_types.specs.declared.sync.ObjectName.TheVariants as objects
use Rattle.bank_model.specs.Sound.{IsTextWithin, IsSoundAccount, IsSoundInfo, IsSoundRecur, IsId}
use Rattle.bank_model.specs.Stores.{Row, transfer_row, model_row, mail_row, has_id, Store}
use Rattle.client_saved.specs.declared.state.ClientState.{ClientState}
use Rattle.client_core.specs.declared.fault.ClientFault.{ClientFault}
use Rattle.client_core.specs.declared.fault.ClientFault.TheVariants.{NoRow}
use Rattle.client_core.specs.declared.wish.Wish.{Wish}
use Rattle.client_core.specs.declared.wish.Wish.TheVariants as wishes
use Rattle.client_core.specs.declared.content.Content.{Content}
use Rattle.client_core.specs.declared.content.Content.TheVariants.{Look, Do}

-- The texts and numbers of a wish for which a file is made are within the bounds of a sound file. Whoever wishes to check for
-- news, or to be shown what is kept, needs no file.
abbrev pub IsSoundWish : Wish → Type 0
IsSoundWish (wishes.Sync account) = IsSoundAccount account
IsSoundWish (wishes.Transfer info) = IsSoundInfo info
IsSoundWish (wishes.Modify id to amount due) =
    IsId id × (IsSoundAccount to × ((unsigned_abs amount.0 ≤ 9999999999999) × IsDay due.0))
IsSoundWish (wishes.Cancel id) = IsId id
IsSoundWish (wishes.Repeat recur info) = IsSoundRecur recur × IsSoundInfo info
IsSoundWish (wishes.Stop id) = IsId id
IsSoundWish (wishes.Mail subject body) = IsTextWithin 64 subject × IsTextWithin 10000 body
IsSoundWish (wishes.Check account) = ⊥
IsSoundWish wishes.Show = ⊥

-- ---- rows that a wish names

abbrev pub as_transfer : Row → Option TransferRow
as_transfer (transfer_row row) = Some row
as_transfer (model_row row) = None
as_transfer (mail_row row) = None

abbrev pub as_model : Row → Option ModelRow
as_model (transfer_row row) = None
as_model (model_row row) = Some row
as_model (mail_row row) = None

abbrev pub transfer_if : Option Row → Option TransferRow
transfer_if None = None
transfer_if (Some row) = as_transfer row

abbrev pub model_if : Option Row → Option ModelRow
model_if None = None
model_if (Some row) = as_model row

-- the transfer with this id in the first store that has it
abbrev pub transfer_kept : ℕ → List Store → Option TransferRow
transfer_kept id [] = None
transfer_kept id (store ∷ more) = option_or (transfer_if (find (has_id id) store.rows)) (transfer_kept id more)

-- the recurring transfer with this id in the first store that has it
abbrev pub model_kept : ℕ → List Store → Option ModelRow
model_kept id [] = None
model_kept id (store ∷ more) = option_or (model_if (find (has_id id) store.rows)) (model_kept id more)

-- ---- what a file has to ask

-- A transfer out of an account, and each change of one, belongs to the transfers out of its source.
abbrev pub in_transfers : AcctName → Deed → Content
in_transfers source deed = Do (objects.Intra source) deed

abbrev pub in_models : AcctName → Deed → Content
in_models source deed = Do (objects.RecIntra source) deed

abbrev pub modifying : ℕ → AcctName → Cents → Day → Option TransferRow → Result Content ClientFault
modifying id to amount due None = Err (NoRow id)
modifying id to amount due (Some row) =
    Ok (in_transfers row.from (deeds.ModifyTransfer id (record { from = row.from; to = to; amount = amount; due = Some due })))

abbrev pub cancelling : ℕ → Option TransferRow → Result Content ClientFault
cancelling id None = Err (NoRow id)
cancelling id (Some row) = Ok (in_transfers row.from (deeds.CancelTransfer id))

-- Whoever stops a recurring transfer cancels the transfers of it that wait, too.
abbrev pub stopping : ℕ → Option ModelRow → Result Content ClientFault
stopping id None = Err (NoRow id)
stopping id (Some row) = Ok (in_models row.from (deeds.CancelModel id true))

abbrev pub mail_of : ClientState → List ℕ → List ℕ → Moment → Deed
mail_of client subject body at =
    deeds.Mail (record { created = at; sender = client.user; target = codes "BANK"; subject = subject; body = body })

-- A wish to synchronise looks at an account. Any other has one deed: a transfer and a recurring transfer as they are wished; a
-- change and a cancellation of a row that a store has, whose source they keep; and a mail to the bank, written now. For a wish
-- to check or to be shown what is kept no file is made, and `NoRow 0` stands for that.
unfoldable pub content_of : ClientState → Wish → Moment → Result Content ClientFault
content_of client (wishes.Sync account) at = Ok (Look account)
content_of client (wishes.Transfer info) at = Ok (in_transfers info.from (deeds.Transfer info))
content_of client (wishes.Modify id to amount due) at = modifying id to amount due (transfer_kept id client.stores)
content_of client (wishes.Cancel id) at = cancelling id (transfer_kept id client.stores)
content_of client (wishes.Repeat recur info) at = Ok (in_models info.from (deeds.Model recur info))
content_of client (wishes.Stop id) at = stopping id (model_kept id client.stores)
content_of client (wishes.Mail subject body) at = Ok (Do objects.Mail (mail_of client subject body at))
content_of client (wishes.Check account) at = Err (NoRow 0)
content_of client wishes.Show at = Err (NoRow 0)
