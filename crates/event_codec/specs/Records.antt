-- Which records code which events, and the state that a bank comes to by its records.
use Rattle.std.specs.Prelude.{◌≡◌, ℕ, ◌<◌, ◌^◌, List, [], ◌∷◌}
use Rattle.ofx_types.specs.Calendar.{IsMoment}
use Rattle.ofx_types.specs.declared.number.Moment.{Moment}
use Rattle.bank_model.specs.Sound.{IsSound, IsId, IsTextWithin}
use Rattle.bank_model.specs.Rules.{IsLegal, state_after}
use Rattle.bank_model.specs.declared.setup.Setup.{Setup}
use Rattle.bank_model.specs.declared.event.State.{State}
use Rattle.bank_model.specs.declared.event.Event.{Event}
use Rattle.bank_model.specs.declared.event.Event.TheVariants.{File, Post, Spawn, Letter}
use Rattle.event_codec.specs.Coding.{coded}

-- The values of an event are within their bounds: a file is sound, an id has at most ten digits, and a letter's subject has 1 to
-- 64 bytes and its body 1 to 10,000.
abbrev pub IsWithinBounds : Event → Type 0
IsWithinBounds (File user file) = IsSound file
IsWithinBounds (Post id) = IsId id
IsWithinBounds (Spawn model offset) = IsId model
IsWithinBounds (Letter user subject body) = IsTextWithin 64 subject × IsTextWithin 10000 body

-- a number of four bytes
abbrev pub IsShort : ℕ → Type 0
IsShort n = n < 2 ^ 32

-- What the types of the program keep of an event: the numbers of users and of offsets in a series have four bytes.
abbrev pub IsTyped : Event → Type 0
IsTyped (File user file) = IsShort user.0
IsTyped (Post id) = Unit {0}
IsTyped (Spawn model offset) = IsShort offset
IsTyped (Letter user subject body) = IsShort user.0

-- A record is what is written of an event at a moment of the years 1900 to 9999, all of whose values are within their bounds.
-- There is one form in which records are written. Events that differ in the name and the password of a file's user alone have
-- the same record.
pub record IsWritten (rec : List ℕ) (at : Moment) (event : Event) : Type 0 where
  pub moment : IsMoment at.0
  pub within : IsWithinBounds event
  pub typed : IsTyped event
  pub spelled : rec ≡ coded at event

-- A record codes an event at a moment where it is read as these. Whatever is written is read so, and nothing else is read.
abbrev pub Codes : List ℕ → Moment → Event → Type 0
Codes rec at event = IsWritten rec at event

-- A bank comes by these records from one state to another: each codes an event that is legal in the state that those
-- before it left.
abbrev pub Reopens : Setup → State → List (List ℕ) → State → Type 0
Reopens setup before [] after = after ≡ before
Reopens setup before (rec ∷ records) after =
    (at : Moment) × (event : Event) × Codes rec at event × IsLegal setup before at event
    × Reopens setup (state_after setup before at event) records after
