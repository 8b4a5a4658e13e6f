-- The rows that a sound state has are sound.
use Rattle.std.proofs.Common.{◌≡◌, ℕ, Bool, true, false, cond, eqb, List, [], ◌∷◌, fold, Option, None, Some, subst}
use Rattle.std.specs.List.{AllByRecursion}
use Rattle.std.specs.Option.{IfSome, option_map}
use Rattle.ofx_types.specs.declared.transfer.TransferRow.{TransferRow}
use Rattle.ofx_types.specs.declared.transfer.XferCode.TheVariants.{Cancelled}
use Rattle.ofx_types.specs.declared.recurring.ModelRow.{ModelRow}
use Rattle.bank_model.specs.declared.entry.Entry.{Entry}
use Rattle.bank_model.specs.declared.setup.Setup.{Setup}
use Rattle.bank_model.specs.declared.event.State.{State}
use Rattle.bank_model.specs.Ledger.{row_in, if_named, or_before, last_row, is_dropped, with_code, row_of}
use Rattle.bank_model.specs.Models.{model_in, if_model_named, or_model_before, model_of}
use Rattle.bank_invariants.specs.SoundStates.{IsSoundRow, IsSoundModel, HasSoundRow, HasSoundModel, IsSoundState}

named : {X : Type 0} (P : X → Type 0) (row : X) (b : Bool) → P row → IfSome (cond b (Some row) None) P
named P row true known = known
named P row false known = tt

-- ---- transfers

in_named : (P : TransferRow → Type 0) (id : ℕ) (row : Option TransferRow) → IfSome row P → IfSome (if_named id row) P
in_named P id None known = tt
in_named P id (Some row) known = named P row (eqb row.id id) known

later : (P : TransferRow → Type 0) (before row : Option TransferRow) → IfSome before P → IfSome row P → IfSome (or_before before row) P
later P before None first second = first
later P before (Some row) first second = second

row_fold : (P : TransferRow → Type 0) (id : ℕ) (before : Option TransferRow) (entries : List Entry) → AllByRecursion (λ (entry : Entry). IfSome (row_in entry.change) P) entries → IfSome before P → IfSome (fold (λ (row : Option TransferRow) (entry : Entry). or_before row (if_named id (row_in entry.change))) before entries) P
row_fold P id before [] all known = known
row_fold P id before (entry ∷ entries) all known =
    row_fold P id (or_before before (if_named id (row_in entry.change))) entries all.1 (later P before (if_named id (row_in entry.change)) known (in_named P id (row_in entry.change) all.0))

coded : (P : TransferRow → Type 0) → ((row : TransferRow) → P row → P (with_code Cancelled row)) → (dropped : Bool) (last : Option TransferRow) → IfSome last P → IfSome (option_map (λ (row : TransferRow). cond dropped (with_code Cancelled row) row) last) P
coded P cancelled dropped None known = tt
coded P cancelled true (Some row) known = cancelled row known
coded P cancelled false (Some row) known = known

-- What holds of each row that entries give, and of such a row that is cancelled, holds of the rows that are found.
pub each_found : (P : TransferRow → Type 0) → ((row : TransferRow) → P row → P (with_code Cancelled row)) → (id : ℕ) (entries : List Entry) → AllByRecursion (λ (entry : Entry). IfSome (row_in entry.change) P) entries → IfSome (row_of id entries) P
unfolding row_of last_row
each_found P cancelled id entries all = coded P cancelled (is_dropped id entries) (last_row id entries) (row_fold P id None entries all tt)

cancelled_sound : (setup : Setup) (row : TransferRow) → IsSoundRow setup row → IsSoundRow setup (with_code Cancelled row)
cancelled_sound setup row sound = record {
  not_negative = sound.not_negative;
  amount = sound.amount;
  due = sound.due;
  stamp = sound.stamp;
  from = sound.from;
  to = sound.to;
  apart = sound.apart;
}

all_sound : (setup : Setup) (id : ℕ) (entries : List Entry) → AllByRecursion (HasSoundRow setup) entries → IfSome (row_of id entries) (IsSoundRow setup)
all_sound setup id entries all = each_found (IsSoundRow setup) (cancelled_sound setup) id entries all

pub row_sound : (setup : Setup) (S : State) (id : ℕ) (row : TransferRow) → IsSoundState setup S → row_of id S.entries ≡ Some row → IsSoundRow setup row
row_sound setup S id row sound found = subst (λ (r : Option TransferRow). IfSome r (IsSoundRow setup)) found (all_sound setup id S.entries sound.rows)

-- ---- recurring transfers

in_model : (P : ModelRow → Type 0) (id : ℕ) (row : Option ModelRow) → IfSome row P → IfSome (if_model_named id row) P
in_model P id None known = tt
in_model P id (Some row) known = named P row (eqb row.id id) known

later_model : (P : ModelRow → Type 0) (before row : Option ModelRow) → IfSome before P → IfSome row P → IfSome (or_model_before before row) P
later_model P before None first second = first
later_model P before (Some row) first second = second

model_fold : (P : ModelRow → Type 0) (id : ℕ) (before : Option ModelRow) (entries : List Entry) → AllByRecursion (λ (entry : Entry). IfSome (model_in entry.change) P) entries → IfSome before P → IfSome (fold (λ (row : Option ModelRow) (entry : Entry). or_model_before row (if_model_named id (model_in entry.change))) before entries) P
model_fold P id before [] all known = known
model_fold P id before (entry ∷ entries) all known =
    model_fold P id (or_model_before before (if_model_named id (model_in entry.change))) entries all.1 (later_model P before (if_model_named id (model_in entry.change)) known (in_model P id (model_in entry.change) all.0))

pub each_model_found : (P : ModelRow → Type 0) (id : ℕ) (entries : List Entry) → AllByRecursion (λ (entry : Entry). IfSome (model_in entry.change) P) entries → IfSome (model_of id entries) P
unfolding model_of
each_model_found P id entries all = model_fold P id None entries all tt

pub models_sound : (setup : Setup) (id : ℕ) (entries : List Entry) → AllByRecursion (HasSoundModel setup) entries → IfSome (model_of id entries) (IsSoundModel setup)
models_sound setup id entries all = each_model_found (IsSoundModel setup) id entries all

pub model_sound : (setup : Setup) (S : State) (id : ℕ) (row : ModelRow) → IsSoundState setup S → model_of id S.entries ≡ Some row → IsSoundModel setup row
model_sound setup S id row sound found = subst (λ (r : Option ModelRow). IfSome r (IsSoundModel setup)) found (models_sound setup id S.entries sound.models)
