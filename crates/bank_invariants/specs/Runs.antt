-- What happens to a bank one after another, and the state that it leaves.
use Rattle.std.specs.Prelude.{◌≡◌, ℕ, Bool, true, false, ◌&&◌, ◌==◌, List, [], ◌∷◌, Option, None, Some, is_some}
use Rattle.std.specs.Str.{bytes_eq}
use Rattle.ofx_types.specs.Calendar.{IsMoment}
use Rattle.ofx_types.specs.declared.number.Moment.{Moment}
use Rattle.ofx_types.specs.declared.number.UserId.{UserId}
use Rattle.bank_model.specs.declared.setup.Setup.{Setup}
use Rattle.bank_model.specs.declared.event.State.{State}
use Rattle.bank_model.specs.declared.event.Event.{Event}
use Rattle.bank_model.specs.declared.event.Event.TheVariants.{File, Post, Spawn, Letter}
use Rattle.bank_model.specs.Once.{reply_kept}
use Rattle.bank_model.specs.Rules.{state_after, IsLegal}

-- an event at its moment
pub record Happening : Type 0 where
  pub at : Moment
  pub event : Event

-- the state after events, each in the state that the one before left
abbrev pub after_all : Setup → State → List Happening → State
after_all setup S [] = S
after_all setup S (first ∷ more) = after_all setup (state_after setup S first.at first.event) more

-- Each event is legal in the state that those before it left, and its moment lies in the years 1900 to 9999.
abbrev pub AreLegal : Setup → State → List Happening → Type 0
AreLegal setup S [] = Unit {0}
AreLegal setup S (first ∷ more) =
    (IsMoment first.at.0 × IsLegal setup S first.at first.event) × AreLegal setup (state_after setup S first.at first.event) more

-- After each of these events a reply is kept for the user's file of this name.
abbrev pub StaysKept : Setup → State → UserId → List ℕ → List Happening → Type 0
StaysKept setup S user name [] = Unit {0}
StaysKept setup S user name (first ∷ more) =
    (is_some (reply_kept user name (state_after setup S first.at first.event).kept) ≡ true)
    × StaysKept setup (state_after setup S first.at first.event) user name more

abbrev pub names_file : UserId → List ℕ → UserId → Option (List ℕ) → Bool
names_file user name other None = false
names_file user name other (Some older) = (other.0 == user.0) && bytes_eq older name

-- A file of this user tells by its OLDFILEUID that the reply to the file of this name was received.
abbrev pub releases : UserId → List ℕ → Event → Bool
releases user name (File other file) = names_file user name other file.older
releases user name (Post id) = false
releases user name (Spawn id occurrence) = false
releases user name (Letter other subject body) = false
