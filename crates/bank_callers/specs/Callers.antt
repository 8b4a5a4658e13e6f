-- What a caller knows of its bank, and what its calls do to that.
use Rattle.std.specs.Prelude.{◌≡◌, ℕ, ◌+◌, ◌<◌, ◌≤◌, List, [], ◌∷◌, ◌++◌, length, All, Contains, ⊤, Option, None, Some}
use Rattle.std.specs.Option.{IfSome}
use Rattle.ofx_types.specs.ReplyForm.{reply_text}
use Rattle.ofx_types.specs.declared.number.ObjectId.{ObjectId}
use Rattle.ofx_types.specs.declared.number.UserId.{UserId}
use Rattle.ofx_types.specs.declared.number.Moment.{Moment}
use Rattle.ofx_types.specs.declared.request.RequestFile.{RequestFile}
use Rattle.bank_model.specs.declared.setup.Setup.{Setup}
use Rattle.bank_model.specs.declared.entry.Entry.{Entry}
use Rattle.bank_model.specs.declared.event.State.{State}
use Rattle.bank_model.specs.declared.event.Event.{Event}
use Rattle.bank_model.specs.declared.event.Event.TheVariants.{File}
use Rattle.bank_model.specs.declared.log.LogItem.{LogItem}
use Rattle.bank_model.specs.declared.log.LogItem.TheVariants.{Effect, Answer, Adopted, Fault}
use Rattle.bank_model.specs.declared.submit.SubmitFault.{SubmitFault}
use Rattle.bank_model.specs.declared.submit.SubmitFault.TheVariants.{Keeper, OutOfMemory}
use Rattle.bank_model.specs.Events.{IsSameEvent}
use Rattle.bank_model.specs.Objects.{newest}
use Rattle.bank_model.specs.Rules.{opening_state}
use Rattle.bank_model.specs.Log.{endings, entries_in}
use Rattle.bank_model.specs.LegalLog.{ends, IsWholeLog}
use Rattle.bank_invariants.specs.Books.{AreBooksRight}
use Rattle.event_codec.specs.Records.{Reopens}
use Rattle.token_board.specs.declared.view.Load.{Load}
use Rattle.token_board.specs.Tokens.{Rises}
use Rattle.bank_callers.specs.Polled.{AreLoadsOf, loads_made, poll_reported}

-- What a caller knows of its bank: the state that the bank opened in; a prefix of the bank's log, which it has seen; which of
-- the endings in it are its own, by their numbers; and the tokens that it has loaded, in order.
pub record CallerView : Type 0 where
  pub opening : State
  pub seen : List LogItem
  pub mine : List ℕ
  pub polled : List Load

-- What a caller knows is right: the bank opened from records; what was seen of its log is legal from there and ends with no cut
-- group; after it the books are right; and its own endings rise and are among those that were seen.
pub record IsRightView (setup : Setup) (view : CallerView) : Type 0 where
  pub records : List (List ℕ)
  pub reopened : Reopens setup opening_state records view.opening
  pub legal : IsWholeLog setup view.opening view.seen
  pub books : AreBooksRight setup (ends setup view.opening view.seen)
  pub rises : Rises view.mine
  pub own : All (λ number. (1 ≤ number) × (number ≤ length (endings view.seen))) view.mine

-- A caller who says what it knows before a call says it after the call, and the two are related so. One that doesn't say
-- never does.
abbrev pub Knows : Option CallerView → Option CallerView → (CallerView → CallerView → Type 0) → Type 0
Knows None None P = ⊤
Knows None (Some w) P = ⊥
Knows (Some v) None P = ⊥
Knows (Some v) (Some w) P = P v w

-- ---- tokens

-- the entries of the bank as far as they were seen
abbrev pub entries_seen : CallerView → List Entry
entries_seen view = entries_in view.opening view.seen

-- A token of at least 1 is the number of an entry of its object.
abbrev pub HoldsIn : List Entry → Load → Type 0
HoldsIn entries load =
    1 ≤ load.token → (entry : Entry) × Contains entries entry × (entry.object ≡ load.object) × (entry.number ≡ load.token)

-- A token is no older than the newest one of its object among these entries.
abbrev pub IsFresh : List Entry → Load → Type 0
IsFresh entries load = newest load.object entries ≤ load.token

-- ---- a user's file

-- What was seen grows by these items, of which the last is an ending of the caller's own: just its number is new to those. After
-- it every token that was loaded before is the number of an entry that was seen.
pub record GainsEnding (grown : List LogItem) (before after : CallerView) : Type 0 where
  pub opening : after.opening ≡ before.opening
  pub seen : after.seen ≡ before.seen ++ grown
  pub mine : after.mine ≡ before.mine ++ length (endings after.seen) ∷ []
  pub polled : after.polled ≡ before.polled
  pub hold : All (HoldsIn (entries_seen after)) before.polled

-- These items more are seen, of which no ending is the caller's own. After it every token that was loaded before is the number of
-- an entry that was seen.
pub record SeesMore (grown : List LogItem) (before after : CallerView) : Type 0 where
  pub opening : after.opening ≡ before.opening
  pub seen : after.seen ≡ before.seen ++ grown
  pub mine : after.mine ≡ before.mine
  pub polled : after.polled ≡ before.polled
  pub hold : All (HoldsIn (entries_seen after)) before.polled

-- Memory was refused: nothing ended, though more may be seen.
pub record GainsNothing (before after : CallerView) : Type 0 where
  pub opening : after.opening ≡ before.opening
  pub grown : List LogItem
  pub seen : after.seen ≡ before.seen ++ grown
  pub mine : after.mine ≡ before.mine
  pub polled : after.polled ≡ before.polled

-- A file's event is committed, and this is the reply. Other items may come before its ending.
pub record IsCommitted (user : UserId) (file : RequestFile) (at : Moment) (reply : List ℕ) (old new : Option CallerView) : Type 0 where
  pub others : List LogItem
  pub event : Event
  pub same : IsSameEvent event (File user file)
  pub knows : Knows old new (GainsEnding (others ++ Answer event at reply ∷ []))

-- the event whose append failed is this file's at this moment
abbrev pub IsOfFile : UserId → RequestFile → Moment → Option (Event × Moment) → Type 0
IsOfFile user file at pending = IfSome pending (λ p. IsSameEvent p.0 (File user file) × (p.1 ≡ at))

-- A call of the keeper failed and raised its count to this number.
pub record IsFaulted (user : UserId) (file : RequestFile) (at : Moment) (count : ℕ) (old new : Option CallerView) : Type 0 where
  pub others : List LogItem
  pub pending : Option (Event × Moment)
  pub own : IsOfFile user file at pending
  pub knows : Knows old new (GainsEnding (others ++ Fault count pending ∷ []))

-- What a refused submission leaves.
abbrev pub IsUncommitted : UserId → RequestFile → Moment → Option CallerView → Option CallerView → SubmitFault → Type 0
IsUncommitted user file at old new (Keeper count) = IsFaulted user file at count old new
IsUncommitted user file at old new OutOfMemory = Knows old new GainsNothing

-- ---- a poll

-- These tokens are loaded, none older than what was seen, and nothing else changes.
pub record HasPolled (loads : List Load) (before after : CallerView) : Type 0 where
  pub opening : after.opening ≡ before.opening
  pub seen : after.seen ≡ before.seen
  pub mine : after.mine ≡ before.mine
  pub polled : after.polled ≡ before.polled ++ loads
  pub fresh : All (IsFresh (entries_seen before)) loads

-- A poll is answered with the tokens that its asks loaded.
pub record IsLooked (setup : Setup) (user : UserId) (file : RequestFile) (at : Moment) (reply : List ℕ) (old new : Option CallerView) : Type 0 where
  pub loads : List (Option Load)
  pub are_loads : AreLoadsOf setup user file loads
  pub reported : reply ≡ reply_text (poll_reported file at loads)
  pub knows : Knows old new (HasPolled (loads_made loads))

-- Memory was refused: tokens may have been loaded, and nothing else changes.
pub record HasLoaded (before after : CallerView) : Type 0 where
  pub opening : after.opening ≡ before.opening
  pub seen : after.seen ≡ before.seen
  pub mine : after.mine ≡ before.mine
  pub loads : List Load
  pub polled : after.polled ≡ before.polled ++ loads
