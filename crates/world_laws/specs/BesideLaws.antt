-- The laws of clients beside a served bank: whatever its log comes to, and whatever they do meanwhile, the world of both stays
-- right. So each store of each client holds its object's entries folded up to its token, or is marked lost.
use Rattle.std.specs.Prelude.{◌≡◌, ℕ, List, [], ◌∷◌, ◌++◌, Contains, slice_get, None, Some}
use Rattle.bank_model.specs.declared.log.LogItem.{LogItem}
use Rattle.bank_model.specs.declared.event.State.{State}
use Rattle.bank_model.specs.declared.setup.Setup.{Setup}
use Rattle.bank_model.specs.Log.{endings}
use Rattle.bank_model.specs.LegalLog.{IsWholeLog, ends}
use Rattle.bank_model.specs.Rules.{opening_state}
use Rattle.bank_model.specs.SetupForm.{IsWithinLimits}
use Rattle.bank_engine.specs.Kept.{CodeEndings}
use Rattle.bank_engine.specs.Truth.{IsTrue}
use Rattle.bank_engine.specs.Views.{JournalView}
use Rattle.client_core.specs.ClientForm.{discarded}
use Rattle.client_core.specs.declared.wish.Wish.{Wish}
use Rattle.client_saved.specs.declared.state.ClientState.{ClientState}
use Rattle.ofx_world.specs.Customer.{CustomerView, MakesFile, TakesIn, IsSavedAs}
use Rattle.ofx_world.specs.Kept.{AreNew}
use Rattle.ofx_world.specs.Server.{ServerView, settled}
use Rattle.ofx_world.specs.Sound.{IsSoundWorld}
use Rattle.ofx_world.specs.Truths.{IsRightWorld}
use Rattle.ofx_world.specs.World.{HaveSaved, beginning}
use Rattle.ofx_world.specs.declared.step.Step.TheVariants as steps
use Rattle.world_laws.specs.BankLaws.{IsRun, IsTried, IsSeenAs}
use Rattle.world_laws.specs.Beside.{ClientsView, Doing, ending, acting, giving_up, world_of, with_client, with_request, endings_of, IsDone, AreDone}
use Rattle.world_laws.specs.ServedBank.{at_rest}

-- What goes on, and what is true of it. `IsRightWorld` says: the bank is in the state to which its records lead; its books are
-- right; each reply that was given is the one-thread bank's at its index; all replies to an outstanding file are alike; each
-- client acts for a user; and each store of each client holds its object's entries folded up to its token, or is marked lost.
abbrev pub StaysRight : ServerView → ClientsView → Type 0
StaysRight server clients = IsSoundWorld (world_of server clients) × IsRightWorld (world_of server clients)

-- New clients, each with its saved text, beside a bank without records.
abbrev pub NewClientsAreRight : Type 0
NewClientsAreRight = (setup : Setup) (clients : List ClientState) (customers : List CustomerView) → IsWithinLimits setup → AreNew setup clients
    → HaveSaved clients customers
    → StaysRight (at_rest setup opening_state []) (record { customers = customers; requests = []; replies = []; clock = beginning })

-- Over a run of the world's bank along a log, with whatever the clients do between its endings.
abbrev pub ClientsGoAlong : Type 0
ClientsGoAlong = (setup : Setup) (opening : State) (first : List (List ℕ)) (log : List LogItem) (server : ServerView) (before after : ClientsView)
    (doings : List Doing) → IsRun setup opening first log server → endings_of doings ≡ endings log → AreDone setup before doings after
    → IsSoundWorld (world_of (at_rest setup opening first) before) → StaysRight server after

-- So it is over each whole log of a served bank, with records that code it, by whichever threads it came.
abbrev pub LogsKeepClients : Type 0
LogsKeepClients = (setup : Setup) (opening : State) (first coded : List (List ℕ)) (log : List LogItem) (before after : ClientsView)
    (doings : List Doing) → IsWholeLog setup opening log → CodeEndings (endings log) coded → endings_of doings ≡ endings log
    → AreDone setup before doings after → IsSoundWorld (world_of (at_rest setup opening first) before)
    → StaysRight (at_rest setup (ends setup opening log) (first ++ coded)) after

-- So it is of a journal whose keeper tells its records at any time, with what is pending in it.
abbrev pub JournalsKeepClients : Type 0
JournalsKeepClients = (setup : Setup) (opening : State) (first : List (List ℕ)) (journal : JournalView) (before after : ClientsView)
    (doings : List Doing) → IsTrue setup opening (Some first) journal → IsTried journal → endings_of doings ≡ endings journal.log
    → AreDone setup before doings after → IsSoundWorld (world_of (at_rest setup opening first) before)
    → (server : ServerView) × IsSeenAs journal server × StaysRight server after

-- A bank that ends and opens from what is stored goes on with the same clients. What was pending has happened where its record is
-- stored.
abbrev pub NextRunsKeepClients : Type 0
NextRunsKeepClients = (server : ServerView) (clients : ClientsView) → server.fault ≡ None → IsSoundWorld (world_of server clients)
    → StaysRight (at_rest server.setup (settled server).state (settled server).records) clients

-- Each act of a client is such a doing, where files are made at the clock's moment and a reply that is taken in was given.
pub record ActsAreDone : Type 0 where
  pub makes : (setup : Setup) (clients : ClientsView) (index : ℕ) (customer new : CustomerView) (wish : Wish) (file : List ℕ)
      → slice_get clients.customers index ≡ Some customer → MakesFile setup customer wish clients.clock new file
      → IsDone setup clients (acting (steps.Make index wish)) (with_request (with_client clients index new) file)
  pub takes : (setup : Setup) (clients : ClientsView) (index number : ℕ) (customer new : CustomerView) (bytes : List ℕ)
      → slice_get clients.customers index ≡ Some customer → slice_get clients.replies number ≡ Some bytes → TakesIn customer bytes new
      → IsDone setup clients (acting (steps.DeliverReply index number)) (with_client clients index new)
  pub discards : (setup : Setup) (clients : ClientsView) (index : ℕ) (customer new : CustomerView)
      → slice_get clients.customers index ≡ Some customer → IsSavedAs (discarded customer.client) new
      → IsDone setup clients (giving_up index) (with_client clients index new)
