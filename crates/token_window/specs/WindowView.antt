-- What contracts see of a window, and the history that it stands for.
use Rattle.std.specs.Prelude.{◌≡◌, ℕ, ◌+◌, ◌-◌, ◌<◌, ◌≤◌, nat_lt, if◌then◌else◌, ⊤, List, [], ◌∷◌, filter, take, length, slice_get, Option, None, Some}
use Rattle.bank_model.specs.declared.entry.Entry.{Entry}
use Rattle.bank_model.specs.Objects.{last_number}
pub use Rattle.bank_model.specs.Objects.{last_number_from}
use Rattle.bank_model.specs.Sync.{is_above}

-- How many entries are held at most, those that are held, the number of the last one that left, and for how many more
-- there is room.
pub record WindowView : Type 0 where
  pub width : ℕ
  pub held : List Entry
  pub floor : ℕ
  pub room : ℕ

-- Numbers rise from entry to entry, the first one from a number before.
abbrev pub RiseFrom : ℕ → List Entry → Type 0
RiseFrom before [] = ⊤
RiseFrom before (entry ∷ entries) = (before < entry.number) × RiseFrom entry.number entries

-- the number of the last entry that came
abbrev pub newest_held : WindowView → ℕ
newest_held window = last_number_from window.floor window.held

-- the entry before the last so many of a history, where there are more than these
abbrev pub entry_before : ℕ → List Entry → Option Entry
entry_before width history =
    if nat_lt width (length history) then slice_get history (length history - width - 1) else None

-- A window stands for a history whose numbers rise: its floor is the number of the entry before the last so many, or 0, and
-- it holds those above its floor, in order.
pub record Represents (history : List Entry) (width : ℕ) (window : WindowView) : Type 0 where
  pub rising : RiseFrom 0 history
  pub as_wide : window.width ≡ width
  pub floor : window.floor ≡ last_number (take (length history - width) history)
  pub held : window.held ≡ filter (is_above window.floor) history

-- the number of an entry, and the number before where there is none
abbrev pub number_of : ℕ → Option Entry → ℕ
number_of before None = before
number_of before (Some entry) = entry.number

-- ---- how a window keeps it

-- Numbers rise from the floor. The ring has a slot for each entry, and no more slots than the window is wide; where it has
-- fewer, it has slots for the entries to come as well.
pub record IsWindow (width capacity floor room : ℕ) (held : List Entry) : Type 0 where
  pub wide : 0 < width
  pub rising : RiseFrom floor held
  pub located : length held ≤ capacity
  pub narrow : capacity ≤ width
  pub roomy : capacity < width → length held + room ≤ capacity
