-- What comes of a store when its client takes the bank's reply to a synchronisation.
use Rattle.ofx_types.specs.Wire.{wire_sync}
use Rattle.ofx_types.specs.declared.number.UserId.{UserId}
use Rattle.ofx_types.specs.declared.number.Moment.{Moment}
use Rattle.ofx_types.specs.declared.sync.SyncAsk.{SyncAsk}
use Rattle.bank_model.specs.declared.setup.Setup.{Setup}
use Rattle.bank_model.specs.declared.event.State.{State}
use Rattle.bank_model.specs.Sync.{sync_answer}
use Rattle.bank_model.specs.Stores.{Store, taken}

-- The bank answers a synchronisation, and a client takes the reply as it comes over the wire.
abbrev pub store_after : Setup → State → UserId → Moment → SyncAsk → Store → Store
store_after setup S user at ask store = taken store ask.kind (wire_sync (sync_answer setup S user at ask).reply)

abbrev pub bank_after : Setup → State → UserId → Moment → SyncAsk → State
bank_after setup S user at ask = (sync_answer setup S user at ask).after
