-- What the engine of a journal may publish at the bank's board.
use Rattle.std.proofs.Common.{◌≡◌, ℕ, ◌+◌, ◌<◌, ◌≤◌, true, List, [], ◌∷◌, ◌++◌, length, map, take, drop, get_or, All, Option, None, Some, refl, sym, ap, ◌∙◌, subst, append_assoc, append-nil}
use Rattle.std.proofs.lemmas.List.{map-append, take_more}
use Rattle.std.specs.Option.{IfSome}
use Rattle.ofx_types.specs.declared.number.Moment.{Moment}
use Rattle.bank_model.specs.declared.entry.Entry.{Entry}
use Rattle.bank_model.specs.declared.event.Event.{Event}
use Rattle.bank_model.specs.declared.event.State.{State}
use Rattle.bank_model.specs.declared.setup.Setup.{Setup}
use Rattle.bank_model.specs.LegalLog.{MayHappen, ends}
use Rattle.bank_model.specs.Rules.{state_after}
use Rattle.bank_model.specs.SetupForm.{IsWithinLimits}
use Rattle.bank_invariants.specs.SoundStates.{IsSoundState}
use Rattle.bank_engine.specs.Steps.{Expects}
use Rattle.bank_engine.specs.Truth.{IsTrue}
use Rattle.bank_engine.specs.Views.{PendingView, JournalView}
use Rattle.bank_model.specs.declared.log.Ending.{Ending}
use Rattle.bank_model.specs.declared.log.Ending.TheVariants as lent
use Rattle.bank_model.specs.declared.log.LogItem.{LogItem}
use Rattle.bank_model.specs.declared.log.LogItem.TheVariants.{Effect}
use Rattle.bank_model.specs.Log.{endings, is_ending}
use Rattle.bank_model.proofs.Lists.{rest_is}
use Rattle.token_board.specs.Following.{MayFollow}
use Rattle.token_board.specs.Tokens.{Begins, IsTokenIn, AreEndings, numbers_in}
use Rattle.token_board.specs.Views.{BoardView, WriterView, PassView, NoteView, item_of, longer}
use Rattle.token_board.specs.Publishing.{MayPublish, HasPublished, IsHeard, Meets, HeardMeets}
use Rattle.bank_callers.specs.Belonging.{AllBelong, LogsBelong}
use Rattle.bank_callers.specs.Boards.{StepsFollow}
use Rattle.bank_shared.specs.Holds.{IsWriterOf}

-- ---- a writer's entries and endings

-- what ends a call is an ending
pub is_end : (e : Ending) → is_ending (item_of e) ≡ true
is_end (lent.Answer event at reply) = refl
is_end (lent.Adopted fault event at) = refl
is_end (lent.Fault count pending) = refl

-- the first of the entries that are left belongs to the board, and is above all before it
pub first_of : (board : BoardView) (writer : WriterView) (entries : List Entry) (k : ℕ) (entry : Entry) → k < length entries → entry ≡ get_or entries k entry
    → MayPublish board writer (drop k entries)
    → (entry.object.0 < length board.start) × All (λ number. number < entry.number) (numbers_in board.start writer.log) × MayFollow board.start (writer.log ++ Effect entry ∷ []) (drop (k + 1) entries)
first_of board writer entries k entry below is may = subst (MayFollow board.start writer.log) (rest_is entries k entry below is) may.follow

-- once it is published, the others may be
pub may_next : (board : BoardView) (writer new : WriterView) (entries : List Entry) (k : ℕ) (entry : Entry) → k < length entries → entry ≡ get_or entries k entry
    → new ≡ record { table = writer.table; log = writer.log ++ Effect entry ∷ []; claimed = writer.claimed } → MayPublish board writer (drop k entries)
    → MayPublish board new (drop (k + 1) entries)
may_next board writer new entries k entry below is same may = record {
  own = ap (λ (w : WriterView). w.table) same ∙ may.own;
  unclaimed = ap (λ (w : WriterView). w.claimed) same ∙ may.unclaimed;
  follow = subst (λ (w : WriterView). MayFollow board.start w.log (drop (k + 1) entries)) (sym same) (first_of board writer entries k entry below is may).2;
}

-- so the log has one entry more
pub log_next : (before : List LogItem) (writer new : WriterView) (entries : List Entry) (k : ℕ) (entry : Entry) → k < length entries → entry ≡ get_or entries k entry
    → new ≡ record { table = writer.table; log = writer.log ++ Effect entry ∷ []; claimed = writer.claimed } → writer.log ≡ before ++ map Effect (take k entries)
    → new.log ≡ before ++ map Effect (take (k + 1) entries)
log_next before writer new entries k entry below is same so =
    let more : take k entries ++ entry ∷ [] ≡ take (k + 1) entries = ap (λ (e : Entry). take k entries ++ e ∷ []) is ∙ sym (take_more entries k entry below) in
    ap (λ (w : WriterView). w.log) same
    ∙ (ap (λ (l : List LogItem). l ++ Effect entry ∷ []) so
    ∙ (append_assoc before (map Effect (take k entries)) (Effect entry ∷ [])
    ∙ ap (λ (l : List LogItem). before ++ l) (sym (map-append Effect (take k entries) (entry ∷ [])) ∙ ap (map Effect) more)))

-- nothing is published yet
pub nothing_yet : (board : BoardView) (writer : WriterView) → MayPublish board writer [] → HasPublished board writer writer.log
nothing_yet board writer may = record { own = may.own; later = []; log = sym (append-nil writer.log); claimed = may.unclaimed }

-- what is true of the writer since it began, at the same board
pub has_published : (board later : BoardView) (before after : WriterView) → MayPublish board before [] → later ≡ board
    → (HasPublished board before before.log → HasPublished later after before.log) → HasPublished board after before.log
has_published board later before after may same since = subst (λ (b : BoardView). HasPublished b after before.log) same (since (nothing_yet board before may))

-- ---- what the engine of a journal publishes

-- an ending
pub may_end : (setup : Setup) (opening : State) (board : BoardView) (writer : WriterView) → IsWriterOf setup opening board writer → MayPublish board writer []
may_end setup opening board writer is = record { own = is.own; unclaimed = is.unclaimed; follow = tt }

-- entries that an event adds
added_may : (setup : Setup) (opening : State) (first : Option (List (List ℕ))) (board : BoardView) (writer : WriterView) (journal : JournalView) (at : Moment) (event : Event) (added : List Entry)
    → StepsFollow → LogsBelong → IsTrue setup opening first journal → journal.log ≡ writer.log → IsWriterOf setup opening board writer
    → IsWithinLimits journal.setup → IsSoundState journal.setup journal.state → MayHappen journal.setup journal.state at event
    → (state_after journal.setup journal.state at event).entries ≡ journal.state.entries ++ added → MayPublish board writer added
added_may setup opening first board writer journal at event added follow belong holds same is within sound may grows =
    let own : journal.setup ≡ setup = holds.own in
    let log_belongs : AllBelong setup (ends setup opening journal.log).entries = belong setup opening journal.log (subst IsWithinLimits own within) is.belong holds.legal in
    let state_belongs : AllBelong setup journal.state.entries = subst (λ (S : State). AllBelong setup S.entries) (sym holds.holds) log_belongs in
    let follows : MayFollow board.start journal.log added = follow setup opening journal.state board.start journal.log at event added (subst IsWithinLimits own within) is.begins
    (subst (λ (s : Setup). IsSoundState s journal.state) own sound) state_belongs holds.entries
    (subst (λ (s : Setup). MayHappen s journal.state at event) own may)
    (subst (λ (s : Setup). (state_after s journal.state at event).entries ≡ journal.state.entries ++ added) own grows) in
    record { own = is.own; unclaimed = is.unclaimed; follow = subst (λ (l : List LogItem). MayFollow board.start l added) same follows }

-- the entries of an event that may happen
pub may_publish : (setup : Setup) (opening : State) (first : Option (List (List ℕ))) (board : BoardView) (writer : WriterView) (journal : JournalView) (at : Moment) (event : Event)
    → StepsFollow → LogsBelong → IsTrue setup opening first journal → journal.log ≡ writer.log → IsWriterOf setup opening board writer
    → IsWithinLimits journal.setup → IsSoundState journal.setup journal.state → MayHappen journal.setup journal.state at event
    → Expects (MayPublish board writer) journal.setup journal.state at event
may_publish setup opening first board writer journal at event follow belong holds same is within sound may = record {
  entries = λ added grows. added_may setup opening first board writer journal at event added follow belong holds same is within sound may grows;
}

-- those of what is pending
pub may_settle : (setup : Setup) (opening : State) (first : Option (List (List ℕ))) (board : BoardView) (writer : WriterView) (journal : JournalView) (pending : Option PendingView)
    → StepsFollow → LogsBelong → IsTrue setup opening first journal → journal.log ≡ writer.log → IsWriterOf setup opening board writer
    → IsWithinLimits journal.setup → IsSoundState journal.setup journal.state → IfSome pending (λ p. MayHappen journal.setup journal.state p.at p.event)
    → IfSome pending (λ p. Expects (MayPublish board writer) journal.setup journal.state p.at p.event)
may_settle setup opening first board writer journal None follow belong holds same is within sound may = tt
may_settle setup opening first board writer journal (Some p) follow belong holds same is within sound may =
    may_publish setup opening first board writer journal p.at p.event follow belong holds same is within sound may

-- ---- one hold

-- the writer is as it was, at the board that the bank's name has
pub of_board : (setup : Setup) (opening : State) (name board : BoardView) (before writer : WriterView) → board ≡ name → writer ≡ before → IsWriterOf setup opening name before
    → IsWriterOf setup opening board writer
of_board setup opening name board before writer named same is =
    subst (λ (b : BoardView). IsWriterOf setup opening b writer) (sym named) (subst (λ (w : WriterView). IsWriterOf setup opening name w) (sym same) is)

-- a pass that was heard, and is as it was
pub heard : (board : BoardView) (before writer : WriterView) (old new : PassView) → (writer ≡ before) × (new ≡ old) → Begins old.seen before.log
    → All (IsTokenIn board.start before.log) old.polled → All (λ number. number ≤ length (endings before.log)) old.mine → IsHeard board writer.log new
heard board before writer old new same seen tokens mine =
    subst (λ (w : WriterView). IsHeard board w.log new) (sym same.0) (subst (λ (p : PassView). IsHeard board before.log p) (sym same.1) (record { seen = seen; tokens = tokens; mine = mine }))

-- it meets a note of what was published since, at the board that the bank's name has
pub meets : (name board : BoardView) (before writer later : WriterView) (old mid new : PassView) (note : NoteView) (first last : List LogItem) → HeardMeets → board ≡ name
    → (writer ≡ before) × (mid ≡ old) → Begins old.seen before.log → All (IsTokenIn board.start before.log) old.polled → All (λ number. number ≤ length (endings before.log)) old.mine
    → HasPublished board later writer.log → note ≡ (record { table = later.table; log = later.log; claimed = later.claimed }) → new.seen ≡ longer mid.seen note.log
    → new.mine ≡ mid.mine ++ note.claimed → AreEndings new.seen new.mine → (new.table ≡ mid.table) × (new.polled ≡ mid.polled) → first ≡ before.log → last ≡ later.log
    → Meets name first last old new
meets name board before writer later old mid new note first last law named same seen tokens mine published noted seen_is mine_is endings_are kept begins ends_so =
    let note_log : note.log ≡ later.log = ap (λ (n : NoteView). n.log) noted in
    let note_claims : note.claimed ≡ later.claimed = ap (λ (n : NoteView). n.claimed) noted in
    let met : Meets board writer.log later.log mid new = law board later writer.log mid new (heard board before writer old mid same seen tokens mine) published
    kept.0 (seen_is ∙ ap (longer mid.seen) note_log) (mine_is ∙ ap (λ (ns : List ℕ). mid.mine ++ ns) note_claims) kept.1 endings_are in
    let first_is : writer.log ≡ first = ap (λ (w : WriterView). w.log) same.0 ∙ sym begins in
    subst (λ (b : BoardView). Meets b first last old new) named
    (subst (λ (p : PassView). Meets board first last p new) same.1
    (subst (λ (l : List LogItem). Meets board first l mid new) (sym ends_so)
    (subst (λ (l : List LogItem). Meets board l later.log mid new) first_is met)))
