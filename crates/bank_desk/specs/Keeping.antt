-- The records of events.
use Rattle.std.specs.Prelude.{◌≡◌, ℕ, Bool, List, [], ◌∷◌, Option, Result, Ok, Err}
use Rattle.ofx_ports.specs.Known.{Stays, Grows}
use Rattle.ofx_ports.specs.Kept.{MayGrow}
use Rattle.ofx_types.specs.declared.number.Moment.{Moment}
use Rattle.bank_model.specs.declared.event.Event.{Event}
use Rattle.event_codec.specs.Records.{IsWritten}
use Rattle.bank_desk.specs.declared.fault.DeskFault.{DeskFault}
use Rattle.bank_desk.specs.declared.fault.DeskFault.TheVariants.{NoMemory, AppendFailed}

-- There is one record for each event of a moment, in order, and it codes the event.
abbrev pub AreRecordsOf : Moment → List Event → List (List ℕ) → Type 0
AreRecordsOf at [] records = records ≡ []
AreRecordsOf at (event ∷ events) [] = ⊥
AreRecordsOf at (event ∷ events) (rec ∷ records) = IsWritten rec at event × AreRecordsOf at events records

-- What is kept of one event: its record; nothing, where memory was refused; and where the append failed, the record if it has
-- landed, of which the keeper's own word is what it tells when this is settled.
abbrev pub Keeps : {A : Type 0} → Moment → Event → Option (List (List ℕ)) → Option (List (List ℕ)) → Option Bool → Result A DeskFault → Type 0
Keeps at event reported reported' landed (Ok done) = (rec : List ℕ) × IsWritten rec at event × Grows reported reported' (rec ∷ [])
Keeps at event reported reported' landed (Err NoMemory) = Stays reported reported'
Keeps at event reported reported' landed (Err AppendFailed) = (rec : List ℕ) × IsWritten rec at event × MayGrow reported reported' landed rec
