-- A legal event is within the bounds of a record.
use Rattle.std.proofs.Common.{◌≡◌, ℕ, ◌≤◌, true, List, length, Option, None, Some, arith, refl}
use Rattle.std.specs.Prelude.{is_some}
use Rattle.std.proofs.lemmas.Bool.{false≢true, and_parts}
use Rattle.ofx_types.specs.declared.number.Day.{Day}
use Rattle.ofx_types.specs.declared.number.Moment.{Moment}
use Rattle.ofx_types.specs.declared.transfer.TransferRow.{TransferRow}
use Rattle.ofx_types.specs.declared.recurring.ModelRow.{ModelRow}
use Rattle.bank_model.specs.declared.entry.Entry.{Entry}
use Rattle.bank_model.specs.declared.setup.Setup.{Setup}
use Rattle.bank_model.specs.declared.event.State.{State}
use Rattle.bank_model.specs.declared.event.Event.{Event}
use Rattle.bank_model.specs.declared.event.Event.TheVariants.{File, Post, Spawn, Letter}
use Rattle.bank_model.specs.SetupForm.{IsWithinLimits}
use Rattle.bank_model.specs.Ledger.{row_of}
use Rattle.bank_model.specs.Models.{model_of}
use Rattle.bank_model.specs.Due.{may_post, may_spawn, date_to_make, date_if_any, last_day}
use Rattle.bank_model.specs.Rules.{IsLegal, raised}
use Rattle.bank_invariants.specs.SoundStates.{IsSoundState}
use Rattle.bank_invariants.proofs.RowLemmas.{AreMade, id_made, model_made}
use Rattle.event_codec.specs.Records.{IsWithinBounds}

-- a transfer that may be posted, and a recurring transfer that may make its next one, was made by an entry
post_made : (setup : Setup) (S : State) (count id : ℕ) (row : Option TransferRow) → ((found : TransferRow) → row ≡ Some found → id ≤ count) → may_post setup S row ≡ true → id ≤ count
post_made setup S count id None made may = absurd (false≢true may)
post_made setup S count id (Some row) made may = made row refl

date_made : (last : Day) (count id : ℕ) (entries : List Entry) (row : Option ModelRow) → ((found : ModelRow) → row ≡ Some found → id ≤ count) → is_some (date_if_any last id entries row) ≡ true → id ≤ count
date_made last count id entries None made may = absurd (false≢true may)
date_made last count id entries (Some row) made may = made row refl

spawn_made : (setup : Setup) (S : State) (count id offset : ℕ) → AreMade count S.entries → may_spawn setup S id offset ≡ true → id ≤ count
unfolding date_to_make
spawn_made setup S count id offset made may =
    date_made (last_day setup S.day) count id S.entries (model_of id S.entries) (λ row found. (model_made count id S.entries row made found).1) (and_parts _ _ (and_parts _ _ may).0).0

-- a legal event in a state that a bank comes to
pub legal_bounds : (setup : Setup) (S : State) (at : Moment) (event : Event) → IsWithinLimits setup → IsSoundState setup S → IsLegal setup S at event → IsWithinBounds event
legal_bounds setup S at (File user file) limits sound legal = legal.1
legal_bounds setup S at (Letter user subject body) limits sound legal = (legal.1, legal.2)
legal_bounds setup S at (Post id) limits sound legal =
    omega (arith, limits.lines.entries_high, sound.few, post_made setup (raised S at) (length S.entries) id (row_of id S.entries) (λ row found. (id_made (length S.entries) id S.entries row sound.made found).1) legal)
legal_bounds setup S at (Spawn id offset) limits sound legal =
    omega (arith, limits.lines.entries_high, sound.few, spawn_made setup (raised S at) (length S.entries) id offset sound.made legal)
