-- What an engine knows of what is ready and of what is pending.
use Rattle.std.proofs.Common.{◌≡◌, ◌++◌, List, Option, None, Some, sym, ap, ◌∙◌, subst}
use Rattle.std.specs.Bool.{⊤}
use Rattle.std.specs.Option.{IfSome, option_map}
use Rattle.ofx_types.specs.Calendar.{IsMoment}
use Rattle.ofx_types.specs.declared.number.Moment.{Moment}
use Rattle.bank_model.specs.declared.entry.Entry.{Entry}
use Rattle.bank_model.specs.declared.event.Event.{Event}
use Rattle.bank_model.specs.declared.event.State.{State}
use Rattle.bank_model.specs.declared.setup.Setup.{Setup}
use Rattle.bank_model.specs.Rules.{IsLegal, answer_to, named, state_after}
use Rattle.bank_accounts.specs.AccountView.{AccountView, Tables}
use Rattle.bank_accounts.specs.HeldAccounts.{AreHeld}
use Rattle.bank_core.specs.BookView.{PreparedView, ReservedBook, HasRoom}
use Rattle.bank_ledger.specs.LedgerView.{Room}
use Rattle.bank_engine.specs.declared.pending.Pending.{Pending}
use Rattle.bank_engine.specs.Pending.{pending_of, IsReadyStill}
use Rattle.bank_engine.specs.Steps.{IsReady, Expects}
use Rattle.bank_engine.specs.Views.{EngineView, PendingView}

abbrev pub engine_of : ReservedBook → Option PendingView → EngineView
engine_of book pending = record { setup = book.setup; state = book.state; room = book.room; tables = book.tables; pending = pending }

-- nothing is pending
pub idle : (book : ReservedBook) (pending : Option Pending) → option_map pending_of pending ≡ None → IfSome pending (IsReadyStill book)
idle book None is = tt
idle book (Some pending) is = absurd (let none : Some (pending_of pending) ≡ None = is in cc)

-- what is pending is ready still, where the book is as before
pub ready_same : (book book' : ReservedBook) (pending : Option Pending) → book'.setup ≡ book.setup → book'.state ≡ book.state → book'.room ≡ book.room → IfSome pending (IsReadyStill book) → IfSome pending (IsReadyStill book')
ready_same book book' None own same room ready = tt
ready_same book book' (Some pending) own same room ready =
    subst (λ (s : Setup). IsReady s book'.state book'.room pending.at pending.event pending.prepared) (sym own)
    (subst (λ (S : State). IsReady book.setup S book'.room pending.at pending.event pending.prepared) (sym same)
    (subst (λ (r : Room). IsReady book.setup book.state r pending.at pending.event pending.prepared) (sym room) ready))

-- an engine whose book is as before is as before
pub view_same : (book book' : ReservedBook) (pending : Option PendingView) → book'.setup ≡ book.setup → book'.state ≡ book.state → book'.tables ≡ book.tables → book'.room ≡ book.room → engine_of book' pending ≡ engine_of book pending
view_same book book' pending own same tables room =
    ap (λ (s : Setup). engine_of (record book' { setup = s }) pending) own
    ∙ ap (λ (S : State). engine_of (record book' { setup = book.setup; state = S }) pending) same
    ∙ ap (λ (ts : Tables). engine_of (record { setup = book.setup; state = book.state; tables = ts; room = book'.room }) pending) tables
    ∙ ap (λ (r : Room). engine_of (record { setup = book.setup; state = book.state; tables = book.tables; room = r }) pending) room

-- the accounts that the pending event names
pub names_held : (setup : Setup) (state : State) (held : List AccountView) (pending : Option Pending) (here : Pending) → pending ≡ Some here → IfSome (option_map pending_of pending) (λ (p : PendingView). AreHeld held (named setup state p.event)) → AreHeld held (named setup state here.event)
names_held setup state held pending here some names =
    subst (λ (q : Option Pending). IfSome (option_map pending_of q) (λ (p : PendingView). AreHeld held (named setup state p.event))) some names

-- what the pending event adds is expected
pub expected_held : (may : List Entry → Type 0) (setup : Setup) (state : State) (pending : Option Pending) (here : Pending) → pending ≡ Some here → IfSome (option_map pending_of pending) (λ (p : PendingView). Expects may setup state p.at p.event) → Expects may setup state here.at here.event
expected_held may setup state pending here some expected =
    subst (λ (q : Option Pending). IfSome (option_map pending_of q) (λ (p : PendingView). Expects may setup state p.at p.event)) some expected

-- a log that is only remembered expects anything
pub nothing_asked : (setup : Setup) (S : State) (pending : Option PendingView) → IfSome pending (λ (p : PendingView). Expects (λ entries. ⊤) setup S p.at p.event)
nothing_asked setup S None = tt
nothing_asked setup S (Some p) = record { entries = λ added grows. tt }

-- the entries of a step that is ready are those that its event adds
pub entries_expected : (may : List Entry → Type 0) (setup : Setup) (S : State) (room : Room) (at : Moment) (event : Event) (ready prepared : PreparedView) (entries : List Entry) → Expects may setup S at event → IsReady setup S room at event ready → prepared ≡ ready → prepared.after.entries ≡ prepared.before.entries ++ entries → may entries
entries_expected may setup S room at event ready prepared entries expected is same adds =
    let grown : ready.after.entries ≡ ready.before.entries ++ entries = subst (λ (p : PreparedView). p.after.entries ≡ p.before.entries ++ entries) same adds in
    expected.entries entries (ap (λ (T : State). T.entries) (sym is.after) ∙ (grown ∙ ap (λ (T : State). T.entries ++ entries) is.before))

-- what a book has prepared is ready
pub ready_now : (setup setup' : Setup) (S S' : State) (room : Room) (at : Moment) (event : Event) (prepared : PreparedView) (added : List Entry) → setup' ≡ setup → S' ≡ S → IsMoment at.0 → IsLegal setup S at event → prepared.setup ≡ setup → prepared.before ≡ S → prepared.event ≡ event → prepared.after ≡ state_after setup S at event → prepared.reply ≡ answer_to setup S at event → HasRoom room S prepared.after → prepared.after.entries ≡ prepared.before.entries ++ added → IsReady setup' S' room at event prepared
ready_now setup setup' S S' room at event prepared added own same moment legal of before is after reply room_for entries =
    subst (λ (s : Setup). IsReady s S' room at event prepared) (sym own)
    (subst (λ (T : State). IsReady setup T room at event prepared) (sym same)
    record {
      may_happen = (moment, legal);
      own = of;
      before = before;
      of = is;
      after = after;
      reply = reply;
      fits = room_for;
      adds = record { added = added; entries = cc (entries, after, before) };
    })
