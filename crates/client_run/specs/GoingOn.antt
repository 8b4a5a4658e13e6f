-- A run goes on from where the one before it ended.
use Rattle.std.specs.Prelude.{◌≡◌, ◌≢◌, ℕ, ◌<◌, List, Option, None, Some, Result, Ok, Err}
use Rattle.ofx_ports.specs.declared.fault.PutFault.{PutFault}
use Rattle.ofx_types.specs.declared.told.Told.{Told}
use Rattle.client_saved.specs.declared.state.ClientState.{ClientState}
use Rattle.client_core.specs.declared.wish.Wish.{Wish}
use Rattle.client_core.specs.declared.wish.Wish.TheVariants as wishes
use Rattle.client_arguments.specs.declared.order.Order.{Order}
use Rattle.client_run.specs.Views.{PortsView}
use Rattle.client_run.specs.Commands.{SendsIf, MakesIf, Acts, Works}
use Rattle.client_run.specs.Run.{WorksIf, Runs, IsRun}
use Rattle.client_run.specs.declared.stop.StoreOpenFault.{StoreOpenFault}
use Rattle.client_run.specs.declared.stop.StoreOpenFault.TheVariants as opens
use Rattle.client_run.specs.declared.stop.ClientStop.{ClientStop}
use Rattle.client_run.specs.declared.stop.ClientStop.TheVariants as stops

-- ---- the client with which a run ends

-- the one that made the file, or the one that took its reply in or gave it up
abbrev pub sent_to : (pass : List ℕ) (next : ClientState) (ahead : List ℕ) (made : Result (Unit {0}) ClientStop) (before after : PortsView) (end : Result (Unit {0}) ClientStop) → SendsIf pass next ahead made before after end → ClientState
sent_to pass next ahead (Err stop) before after end sends = next
sent_to pass next ahead (Ok done) before after end sends = sends.0

-- the one that the earlier file left, where no new one is made
abbrev pub made_to : (pass : List ℕ) (wish : Wish) (later : ClientState) (ahead : List ℕ) (first : Result (Unit {0}) ClientStop) (before after : PortsView) (end : Result (Unit {0}) ClientStop) → MakesIf pass wish later ahead first before after end → ClientState
made_to pass wish later ahead (Err stop) before after end makes = later
made_to pass wish later ahead (Ok done) before after end makes = sent_to pass makes.next ahead makes.made_end makes.between after end makes.sends

abbrev pub acted_to : (pass : List ℕ) (wish : Wish) (client : ClientState) (before after : PortsView) (end : Result (Unit {0}) ClientStop) → Acts pass wish client before after end → ClientState
acted_to pass wish client before after end acts = made_to pass wish acts.later acts.ahead acts.first acts.between after end acts.makes

-- `show` and `check` leave the client as it was.
abbrev pub worked_to : (pass : List ℕ) (wish : Wish) (client : ClientState) (before after : PortsView) (end : Result (Unit {0}) ClientStop) → Works pass wish client before after end → ClientState
worked_to pass wishes.Show client before after end works = client
worked_to pass (wishes.Check account) client before after end works = client
worked_to pass (wishes.Sync account) client before after end acts = acted_to pass (wishes.Sync account) client before after end acts
worked_to pass (wishes.Transfer info) client before after end acts = acted_to pass (wishes.Transfer info) client before after end acts
worked_to pass (wishes.Modify id to amount due) client before after end acts = acted_to pass (wishes.Modify id to amount due) client before after end acts
worked_to pass (wishes.Cancel id) client before after end acts = acted_to pass (wishes.Cancel id) client before after end acts
worked_to pass (wishes.Repeat recur info) client before after end acts = acted_to pass (wishes.Repeat recur info) client before after end acts
worked_to pass (wishes.Stop id) client before after end acts = acted_to pass (wishes.Stop id) client before after end acts
worked_to pass (wishes.Mail subject body) client before after end acts = acted_to pass (wishes.Mail subject body) client before after end acts

abbrev pub left_if : (order : Order) (found : Result ClientState StoreOpenFault) (before after : PortsView) (end : Result (Unit {0}) ClientStop) → WorksIf order found before after end → Option ClientState
left_if order (Err fault) before after end works = None
left_if order (Ok client) before after end works = Some (worked_to order.pass order.wish client before after end works)

-- A run ends with a client where it found one.
abbrev pub left_by : (order : Order) (before after : PortsView) (end : Result (Unit {0}) ClientStop) → Runs order before after end → Option ClientState
left_by order before after end runs = left_if order runs.found runs.between after end runs.works

-- ---- the next run

-- No save failed and none was given up for want of memory.
abbrev pub IsSaved : Result (Unit {0}) ClientStop → Type 0
IsSaved end = (fault : PutFault) → end ≢ Err (stops.Keep fault)

-- A run finds just this client, unless no number is left for a file, or the text couldn't be loaded or memory was refused.
abbrev pub FindsJust : ClientState → Result ClientState StoreOpenFault → Type 0
FindsJust client (Ok found) = found ≡ client
FindsJust client (Err opens.NotOurs) = client.next < 9999999999 → ⊥
FindsJust client (Err (opens.Bad at)) = ⊥
FindsJust client (Err opens.Failed) = Unit {0}
FindsJust client (Err opens.OutOfMemory) = Unit {0}

-- A run and a later one, for the same client and the same user. The store tells its text, and the later run has what the
-- earlier one left in it.
pub record ComesAfter (order later_order : Order) (before after later_before : PortsView) : Type 0 where
  pub text : List ℕ
  pub reported_is : before.store.text ≡ Some text
  pub name_is : later_order.name ≡ order.name
  pub user_is : later_order.user ≡ order.user
  pub store_is : later_before.store ≡ after.store

-- Where an earlier run saved all that it was to save, a later one finds the client with which it ended.
abbrev pub GoesOn : Type 0
GoesOn = (arguments later_words : List (List ℕ)) (before after later_before later_after : PortsView) (what later_what : Told)
    (run : IsRun arguments before after what) (later : IsRun later_words later_before later_after later_what) (client : ClientState)
    → ComesAfter run.order later.order before after later_before → left_by run.order before after run.end run.runs ≡ Some client
    → IsSaved run.end → FindsJust client later.runs.found
