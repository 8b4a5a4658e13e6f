-- What holds of every schedule.
use Rattle.std.specs.Prelude.{◌≡◌, ℕ, suc, ◌+◌, ◌<◌, List, [], ◌∷◌, length, map, slice_get, Bool, true, false}
use Rattle.postgres_model.specs.Engine.{Row, Log, numbered, record_at, Request, Append, Answer, Took, has_inserted}
use Rattle.postgres_model.specs.World.{Call, Unsent, Waits, Done, Keeper, Closed, Taking, Idle, Appending, Unsettled, Settling, Held, Engine, World, Acknowledged, Settled, Event, run, start}

-- the world after this schedule
abbrev pub reached : List Event → World
reached events = run start events

-- The log has these records under the numbers from the first on.
abbrev pub StandsFrom : (first : ℕ) → List (List ℕ) → Log → Type 0
StandsFrom first group log = (i : ℕ) → i < length group → record_at (first + i) log.rows ≡ slice_get group i

-- The call is an append, and its group was inserted.
abbrev pub has_landed : Call → Bool
has_landed (Done keeper request found) = has_inserted found
has_landed _ = false

-- The keeper has the log, and holds these records of it.
abbrev pub HasLog : Keeper → Held → Type 0
HasLog (Idle known) held = known ≡ held
HasLog (Appending known group append) held = known ≡ held
HasLog (Unsettled known group append) held = known ≡ held
HasLog (Settling known group append retake) held = known ≡ held
HasLog _ held = ⊥

abbrev pub texts : List Row → List (List ℕ)
texts rows = map (λ row. row.bytes) rows
