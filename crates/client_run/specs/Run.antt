-- A whole run of the customer's program, and what is reported of its end.
use Rattle.std.specs.Prelude.{◌≡◌, ℕ, List, Result, Ok, Err, ◌⊎◌}
use Rattle.ofx_types.specs.declared.told.Note.TheVariants.{Plain}
use Rattle.ofx_types.specs.declared.told.Told.{Told}
use Rattle.client_saved.specs.declared.state.ClientState.{ClientState}
use Rattle.client_arguments.specs.Arguments.{AreArguments, IsUsage}
use Rattle.client_arguments.specs.declared.order.Order.{Order}
use Rattle.client_run.specs.Views.{PortsView}
use Rattle.client_run.specs.Saves.{Opens}
use Rattle.client_run.specs.Commands.{Works}
use Rattle.client_run.specs.Stopping.{reported, reported_of}
use Rattle.client_run.specs.declared.stop.StoreOpenFault.{StoreOpenFault}
use Rattle.client_run.specs.declared.stop.ClientStop.{ClientStop}
use Rattle.client_run.specs.declared.stop.ClientStop.TheVariants as stops

-- Where no client is found that the arguments name, nothing is sent, printed or saved.
abbrev pub WorksIf : Order → Result ClientState StoreOpenFault → PortsView → PortsView → Result (Unit {0}) ClientStop → Type 0
WorksIf order (Err fault) before after end = (end ≡ Err (stops.Open fault)) × (after ≡ before)
WorksIf order (Ok client) before after end = Works order.pass order.wish client before after end

-- A run goes on from the client that is kept.
pub record Runs (order : Order) (before after : PortsView) (end : Result (Unit {0}) ClientStop) : Type 0 where
  pub found : Result ClientState StoreOpenFault
  pub between : PortsView
  pub opens : Opens order before.store between.store found
  pub link_is : between.link ≡ before.link
  pub shown_is : between.shown ≡ before.shown
  pub out_is : between.out ≡ before.out
  pub works : WorksIf order found between after end

-- The run of an order, and what is reported of its end.
pub record IsOrderRun (order : Order) (before after : PortsView) (what : Told) : Type 0 where
  pub end : Result (Unit {0}) ClientStop
  pub runs : Runs order before after end
  pub reported_is : what ≡ reported_of end

-- the run that words order, and what is reported of its end
pub record IsRun (arguments : List (List ℕ)) (before after : PortsView) (what : Told) : Type 0 where
  pub order : Order
  pub are_arguments : AreArguments arguments order
  pub end : Result (Unit {0}) ClientStop
  pub runs : Runs order before after end
  pub reported_is : what ≡ reported_of end

-- Arguments without a form order nothing.
pub record IsUnordered (arguments : List (List ℕ)) (before after : PortsView) (what : Told) : Type 0 where
  pub usage : IsUsage arguments
  pub reported_is : what ≡ reported 2 Plain
  pub unchanged : after ≡ before

-- Memory may be refused for the arguments.
pub record IsUnread (before after : PortsView) (what : Told) : Type 0 where
  pub reported_is : what ≡ reported 7 Plain
  pub unchanged : after ≡ before

abbrev pub IsClientRun : List (List ℕ) → PortsView → PortsView → Told → Type 0
IsClientRun arguments before after what =
    IsUnordered arguments before after what ⊎ (IsRun arguments before after what ⊎ IsUnread before after what)

-- ---- laws

-- The run of an order that the arguments have is the run of the arguments.
abbrev pub OrderRunsAreRuns : Type 0
OrderRunsAreRuns = (arguments : List (List ℕ)) (order : Order) (before after : PortsView) (what : Told)
    → AreArguments arguments order → IsOrderRun order before after what → IsClientRun arguments before after what
