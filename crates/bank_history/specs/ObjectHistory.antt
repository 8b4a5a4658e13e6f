-- What is held of the objects of a bank, and the entries that it stands for.
use Rattle.std.specs.Prelude.{◌≡◌, ℕ, ◌==◌, List, [], Option, None, Some}
use Rattle.std.specs.List.{flat_map}
use Rattle.std.specs.Map.{lookup}
use Rattle.ofx_types.specs.declared.number.ObjectId.{ObjectId}
use Rattle.bank_model.specs.declared.entry.Entry.{Entry}
use Rattle.bank_model.specs.Objects.{history_of}
use Rattle.token_window.specs.WindowView.{WindowView, Represents, newest_held}
use Rattle.bank_mail.specs.MailsView.{ObjectMails}
use Rattle.bank_mail.specs.MailsView as mails
use Rattle.bank_history.specs.Made.{origin_in}
use Rattle.bank_history.specs.declared.origins.Origin.{Origin}

-- The last entries of an object, the origins of what its history made, and for how many more there is room.
pub record ObjectHistoryView : Type 0 where
  pub window : WindowView
  pub origins : List Origin
  pub room : ℕ

-- What is held of an object stands for a history whose numbers rise.
pub record HoldsHistory (history : List Entry) (width : ℕ) (kept : ObjectHistoryView) : Type 0 where
  pub window : Represents history width kept.window
  pub origins : kept.origins ≡ flat_map (λ (entry : Entry). origin_in entry.change) history

-- ---- all objects

-- what is held of an object
abbrev pub held_at : ObjectId → List (ℕ × ObjectHistoryView) → Option ObjectHistoryView
held_at object table = lookup (λ key. object.0 == key) table

-- Of an object of which nothing is held no entry came.
abbrev pub HoldsHistoryOr : List Entry → ℕ → Option ObjectHistoryView → Type 0
HoldsHistoryOr history width None = history ≡ []
HoldsHistoryOr history width (Some kept) = HoldsHistory history width kept

-- for how many more entries there is room, none where nothing is held
abbrev pub room_in : Option ObjectHistoryView → ℕ
room_in None = 0
room_in (Some kept) = kept.room

-- the number of the last entry, 0 where nothing is held
abbrev pub newest_in : Option ObjectHistoryView → ℕ
newest_in None = 0
newest_in (Some kept) = newest_held kept.window

-- the number of the last entry that isn't held any more, 0 where there is none
abbrev pub floor_in : Option ObjectHistoryView → ℕ
floor_in None = 0
floor_in (Some kept) = kept.window.floor

-- How many entries of each object are held at most, and what is held of each.
pub record ObjectsView : Type 0 where
  pub width : ℕ
  pub held : List (ℕ × ObjectHistoryView)

-- What is held of all objects stands for entries: what is held of each stands for its history.
abbrev pub HoldHistories : List Entry → ObjectsView → Type 0
HoldHistories entries objects = (object : ObjectId) → HoldsHistoryOr (history_of object entries) objects.width (held_at object objects.held)

-- What is held of each object, and the mails of each.
pub record LaidView : Type 0 where
  pub objects : ObjectsView
  pub mails : List ObjectMails

-- This stands for entries: each object has its last ones, the origins of what its history made, and its mails.
pub record LaidFor (entries : List Entry) (laid : LaidView) : Type 0 where
  pub objects : HoldHistories entries laid.objects
  pub mails : mails.Represents laid.mails entries
