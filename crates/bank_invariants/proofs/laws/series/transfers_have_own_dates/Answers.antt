use Rattle.std.proofs.Common.{ℕ, ◌<◌, Option, None, Some}
use Rattle.std.specs.Option.{IfSome}
use Rattle.ofx_types.specs.declared.recurring.ModelRow.{ModelRow}
use Rattle.bank_model.specs.declared.setup.Setup.{Setup}
use Rattle.bank_model.specs.declared.event.State.{State}
use Rattle.bank_model.specs.Models.{model_of}
use Rattle.bank_invariants.specs.SoundStates.{IsSoundModel, IsSoundState}
use Rattle.bank_invariants.specs.Series.{dates_made, AreOwnDates}
use Rattle.bank_invariants.proofs.SoundFound.{models_sound}
use Rattle.bank_invariants.proofs.RunLaws.{IsSoundState-run}
use Rattle.bank_invariants.proofs.SeriesLemmas.{HasFirst, are_dated, own_dates}
use Rattle.bank_invariants.proofs.laws.series.transfers_have_own_dates.Goals as goal

first_known : (setup : Setup) (found : Option ModelRow) → IfSome found (IsSoundModel setup) → HasFirst found
first_known setup None sound = tt
first_known setup (Some row) sound = sound.first

own_in : (setup : Setup) (S : State) (id : ℕ) → IsSoundState setup S → 0 < id → AreOwnDates (dates_made id S.entries)
own_in setup S id sound some =
    own_dates (model_of id S.entries) (dates_made id S.entries)
    (first_known setup (model_of id S.entries) (models_sound setup id S.entries sound.models))
    (are_dated id S.entries some sound.lawful)

pub returns : goal.returns
returns c = λ setup run id within legal some. own_in setup _ id (IsSoundState-run setup run within legal) some
