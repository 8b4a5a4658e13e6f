-- The rows that are found in a history may be reported.
use Rattle.std.proofs.Common.{◌≡◌, ℕ, List, Option, Some, subst}
use Rattle.std.specs.List.{AllByRecursion}
use Rattle.std.specs.Option.{IfSome}
use Rattle.ofx_types.specs.TransferForm.{info_of}
use Rattle.ofx_types.specs.declared.transfer.TransferRow.{TransferRow}
use Rattle.ofx_types.specs.declared.transfer.XferCode.TheVariants.{Cancelled}
use Rattle.ofx_types.specs.declared.transfer.Change.{Change}
use Rattle.ofx_types.specs.declared.transfer.Change.TheVariants.{NewTransfer, SetTransfer, DropTransfer, NewModel, SetModel, DropModel, NewMail}
use Rattle.ofx_types.specs.declared.recurring.ModelRow.{ModelRow}
use Rattle.bank_model.specs.declared.entry.Entry.{Entry}
use Rattle.bank_model.specs.declared.setup.Setup.{Setup}
use Rattle.bank_model.specs.Ledger.{row_in, with_code, row_of}
use Rattle.bank_model.specs.Models.{model_in, model_of, waiting_of}
use Rattle.bank_invariants.proofs.SoundFound.{each_found, each_model_found}
use Rattle.bank_invariants.proofs.PendingLemmas.{IsHere, waiting_wait}
use Rattle.msg_deed.specs.SoundDeeds.{IsId, IsSoundInfo, IsSoundModelRow}
use Rattle.msg_parts.specs.SoundParts.{IsSoundMoment}
use Rattle.reply_laws.specs.Reportable.{IsReportedChange, IsReportedEntry}
use Rattle.bank_model.proofs.Lists.{all_step}

-- A row that may be reported, unless it is cancelled.
pub record IsKnownRow (row : TransferRow) : Type 0 where
  pub id : IsId row.id
  pub model : IsId row.model
  pub info : IsSoundInfo (info_of row)
  pub stamp : IsSoundMoment row.stamp

-- ---- transfers

pub row_known : (change : Change) → IsReportedChange change → IfSome (row_in change) IsKnownRow
row_known (NewTransfer row) reported = record { id = reported.0.id; model = reported.1; info = reported.0.info; stamp = reported.0.stamp }
row_known (SetTransfer row) reported = record { id = reported.0.id; model = reported.1; info = reported.0.info; stamp = reported.0.stamp }
row_known (DropTransfer id) reported = tt
row_known (NewModel row) reported = tt
row_known (SetModel row pending) reported = tt
row_known (DropModel id pending) reported = tt
row_known (NewMail row) reported = tt

cancelled_known : (row : TransferRow) → IsKnownRow row → IsKnownRow (with_code Cancelled row)
cancelled_known row known = record { id = known.id; model = known.model; info = known.info; stamp = known.stamp }

found_known : (setup : Setup) (id : ℕ) (entries : List Entry) → AllByRecursion (IsReportedEntry setup) entries → IfSome (row_of id entries) IsKnownRow
found_known setup id entries all =
    each_found IsKnownRow cancelled_known id entries
    (all_step (IsReportedEntry setup) (λ (entry : Entry). IfSome (row_in entry.change) IsKnownRow) entries (λ entry reported. row_known entry.change reported.change) all)

pub known_row : (setup : Setup) (id : ℕ) (entries : List Entry) (row : TransferRow) → AllByRecursion (IsReportedEntry setup) entries → row_of id entries ≡ Some row → IsKnownRow row
known_row setup id entries row all found = subst (λ (r : Option TransferRow). IfSome r IsKnownRow) found (found_known setup id entries all)

-- the transfers that wait for a recurring one
pub waiting_known : (setup : Setup) (id : ℕ) (entries : List Entry) → AllByRecursion (IsReportedEntry setup) entries → AllByRecursion (λ (row : TransferRow). IsKnownRow row × IsHere entries row) (waiting_of id entries)
waiting_known setup id entries all =
    all_step (IsHere entries) (λ (row : TransferRow). IsKnownRow row × IsHere entries row) (waiting_of id entries) (λ row here. (known_row setup row.id entries row all here.0, here)) (waiting_wait id entries)

-- ---- recurring transfers

model_known : (change : Change) → IsReportedChange change → IfSome (model_in change) IsSoundModelRow
model_known (NewTransfer row) reported = tt
model_known (SetTransfer row) reported = tt
model_known (DropTransfer id) reported = tt
model_known (NewModel row) reported = reported
model_known (SetModel row pending) reported = reported
model_known (DropModel id pending) reported = tt
model_known (NewMail row) reported = tt

found_model : (setup : Setup) (id : ℕ) (entries : List Entry) → AllByRecursion (IsReportedEntry setup) entries → IfSome (model_of id entries) IsSoundModelRow
found_model setup id entries all =
    each_model_found IsSoundModelRow id entries
    (all_step (IsReportedEntry setup) (λ (entry : Entry). IfSome (model_in entry.change) IsSoundModelRow) entries (λ entry reported. model_known entry.change reported.change) all)

pub known_model : (setup : Setup) (id : ℕ) (entries : List Entry) (row : ModelRow) → AllByRecursion (IsReportedEntry setup) entries → model_of id entries ≡ Some row → IsSoundModelRow row
known_model setup id entries row all found = subst (λ (r : Option ModelRow). IfSome r IsSoundModelRow) found (found_model setup id entries all)
