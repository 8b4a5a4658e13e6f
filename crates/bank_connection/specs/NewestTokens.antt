-- The newest tokens of a state, as a poll loads them.
use Rattle.std.specs.Prelude.{◌≡◌, ℕ, List, map, All, Option, None, Some}
use Rattle.ofx_types.specs.declared.number.ObjectId.{ObjectId}
use Rattle.ofx_types.specs.declared.number.UserId.{UserId}
use Rattle.ofx_types.specs.declared.number.Moment.{Moment}
use Rattle.ofx_types.specs.declared.request.Ask.{Ask}
use Rattle.ofx_types.specs.declared.request.RequestFile.{RequestFile}
use Rattle.bank_model.specs.declared.setup.Setup.{Setup}
use Rattle.bank_model.specs.declared.event.State.{State}
use Rattle.bank_model.specs.Objects.{newest}
use Rattle.bank_model.specs.Polls.{poll_reply}
use Rattle.token_board.specs.declared.view.Load.{Load}
use Rattle.bank_callers.specs.Polled.{object_asked, AreLoadsOf, loads_made, poll_reported}
use Rattle.bank_callers.specs.Callers.{IsFresh, HoldsIn}

abbrev pub newest_load : State → Option ObjectId → Option Load
newest_load S None = None
newest_load S (Some object) = Some (record { object = object; token = newest object S.entries })

-- what the asks of a poll load in a bank that is in a state
abbrev pub newest_loads : Setup → State → UserId → List Ask → List (Option Load)
newest_loads setup S user all = map (λ (ask : Ask). newest_load S (object_asked setup user ask)) all

-- In that state a poll is answered with just those: the two replies are one. None of them is older than the entries of the state,
-- and each is the number of one of these.
abbrev pub NewestAreReported : Type 0
NewestAreReported = (setup : Setup) (S : State) (user : UserId) (at : Moment) (file : RequestFile) →
    let loads = newest_loads setup S user file.asks in
    AreLoadsOf setup user file loads × (poll_reply setup S user at file ≡ poll_reported file at loads)
    × All (IsFresh S.entries) (loads_made loads) × All (HoldsIn S.entries) (loads_made loads)
