-- A run of the customer's program, as what its client does in the world.
use Rattle.std.specs.Prelude.{◌≡◌, ℕ, List, Some, Ok}
use Rattle.ofx_types.specs.declared.told.Told.{Told}
use Rattle.bank_model.specs.declared.setup.Setup.{Setup}
use Rattle.client_saved.specs.declared.state.ClientState.{ClientState}
use Rattle.client_arguments.specs.declared.order.Order.{Order}
use Rattle.client_run.specs.GoingOn.{left_by, IsSaved}
use Rattle.client_run.specs.Run.{IsRun}
use Rattle.client_run.specs.Saves.{IsClientIn}
use Rattle.client_run.specs.Views.{PortsView}
use Rattle.ofx_world.specs.Customer.{CustomerView}
use Rattle.world_laws.specs.ClientActs.{Act, AreActs}

-- what a client knows, and the text that is kept
abbrev pub customer_of : ClientState → List ℕ → CustomerView
customer_of client saved = record { client = client; saved = saved }

-- From the client that was found the acts lead to the one with which the run ends. Where the store tells its text, the client
-- that was found is the one in it, and the text is in the end the one that the last act saved.
pub record IsActedOut (setup : Setup) (order : Order) (before after : PortsView) (client left : ClientState) (saved : List ℕ) : Type 0 where
  pub acts : List Act
  pub last : List ℕ
  pub does : AreActs setup (customer_of client saved) acts (customer_of left last)
  pub starts : before.store.text ≡ Some saved → IsClientIn order saved client
  pub stands : before.store.text ≡ Some saved → after.store.text ≡ Some last

-- Where no save of a run failed, all that it did of the client that it found are acts of that client.
abbrev pub RunsAreActs : Type 0
RunsAreActs = (setup : Setup) (arguments : List (List ℕ)) (before after : PortsView) (what : Told) (run : IsRun arguments before after what)
    (client left : ClientState) (saved : List ℕ) → run.runs.found ≡ Ok client
    → left_by run.order before after run.end run.runs ≡ Some left → IsSaved run.end → IsActedOut setup run.order before after client left saved
