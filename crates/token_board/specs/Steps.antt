-- What each step on a board does to the view of who takes it, and what it tells.
use Rattle.std.specs.Prelude.{◌≡◌, ℕ, ◌+◌, ◌≤◌, Bool, true, false, List, [], ◌∷◌, ◌++◌, length, All}
use Rattle.atomic_table.specs.Table.{Me, Step}
use Rattle.ofx_types.specs.declared.number.ObjectId.{ObjectId}
use Rattle.bank_model.specs.declared.log.LogItem.{LogItem}
use Rattle.bank_model.specs.Log.{endings}
use Rattle.token_board.specs.declared.view.Load.{Load}
use Rattle.token_board.specs.declared.view.View.{View}
use Rattle.token_board.specs.Tokens.{Begins, IsTokenIn, IsFreshIn}
use Rattle.token_board.specs.Views.{longer, claims_of}

-- a view that knows nothing; what is left of one that was joined to another
abbrev pub empty : View
empty = record { writes = false; seen = []; heard = []; owned = []; tokens = [] }

-- the writer, before it has published
abbrev pub fresh_writer : View
fresh_writer = record { writes = true; seen = []; heard = []; owned = []; tokens = [] }

-- ---- publishing

-- The log gets an item. Its ending is owned where it is an answer or a fault.
abbrev pub with_item : LogItem → View → View
with_item item view = record {
  writes = view.writes;
  seen = view.seen ++ item ∷ [];
  heard = view.heard;
  owned = view.owned ++ claims_of item (length (endings (view.seen ++ item ∷ [])));
  tokens = view.tokens;
}

abbrev pub published : {S : Type 0} → LogItem → Step S → Me S View → ℕ → Me S View → Type 0
published item step before found after = after ≡ (with_item item before.0, before.1)

-- ---- loading a token

abbrev pub with_token : Load → View → View
with_token load view = record {
  writes = view.writes;
  seen = view.seen;
  heard = view.heard;
  owned = view.owned;
  tokens = view.tokens ++ load ∷ [];
}

abbrev pub load_of : ObjectId → ℕ → Load
load_of object token = record { object = object; token = token }

-- The token is put to the others, and is no older than what was seen.
abbrev pub GetsToken : List ℕ → Load → View → View → Type 0
GetsToken start load before after = (after ≡ with_token load before) × IsFreshIn start before.seen load

abbrev pub loaded : {S : Type 0} → List ℕ → ObjectId → Step S → Me S View → ℕ → Me S View → Type 0
loaded start object step before found after = GetsToken start (load_of object found) before.0 after.0 × (after.1 ≡ before.1)

-- an object that isn't the board's has no entries
abbrev pub unknown : {S : Type 0} → List ℕ → ObjectId → Step S → Me S View → ℕ → Me S View → Type 0
unknown start object step before found after = GetsToken start (load_of object 0) before.0 after.0 × (after.1 ≡ before.1)

-- ---- splitting

-- A child has seen and loaded what its parent has, and owns nothing.
abbrev pub child : View → View
child view = record { writes = false; seen = view.seen; heard = []; owned = []; tokens = view.tokens }

-- A note has the log, and takes what the writer claims.
abbrev pub note_of : View → View
note_of view = record { writes = false; seen = view.seen; heard = []; owned = view.owned; tokens = [] }

abbrev pub noted : View → View
noted view = record { writes = view.writes; seen = view.seen; heard = view.heard; owned = []; tokens = view.tokens }

-- ---- meeting

-- a pass that has a note's log beside its own, and owns the ending that the note claimed
abbrev pub with_note : View → View → View
with_note pass note = record {
  writes = pass.writes;
  seen = pass.seen;
  heard = note.seen;
  owned = pass.owned ++ note.owned;
  tokens = pass.tokens;
}

-- the longer one of the two is what the pass has seen
abbrev pub met : View → View
met pass = record {
  writes = pass.writes;
  seen = longer pass.seen pass.heard;
  heard = [];
  owned = pass.owned;
  tokens = pass.tokens;
}

-- Both of them begin one log, so they begin the longer one.
abbrev pub compared : {S : Type 0} → Step S → Me S View → ℕ → Me S View → Type 0
compared step before found after =
    (after ≡ (met before.0, before.1)) × Begins before.0.seen (longer before.0.seen before.0.heard)
    × Begins before.0.heard (longer before.0.seen before.0.heard)

-- ---- hearing

-- the writer, with what a pass has seen and loaded
abbrev pub with_heard : View → View → View
with_heard writer pass = record {
  writes = writer.writes;
  seen = writer.seen;
  heard = pass.seen;
  owned = writer.owned;
  tokens = pass.tokens;
}

-- What was heard begins the log, and its tokens are numbers of the log's entries.
abbrev pub checked : {S : Type 0} → List ℕ → Step S → Me S View → ℕ → Me S View → Type 0
checked start step before found after =
    (after ≡ before) × Begins before.0.heard before.0.seen × All (IsTokenIn start before.0.seen) before.0.tokens
