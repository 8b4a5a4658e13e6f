-- A wish for which a file is made is done by making it.
use Rattle.std.proofs.Common.{ℕ, List, Result}
use Rattle.client_saved.specs.declared.state.ClientState.{ClientState}
use Rattle.client_core.specs.Wishes.{IsSoundWish}
use Rattle.client_core.specs.declared.wish.Wish.{Wish}
use Rattle.client_core.specs.declared.wish.Wish.TheVariants as wishes
use Rattle.client_run.specs.Views.{PortsView}
use Rattle.client_run.specs.Commands.{Acts, Works}
use Rattle.client_run.specs.declared.stop.ClientStop.{ClientStop}

pub does_work : (pass : List ℕ) (wish : Wish) (client : ClientState) (before after : PortsView) (end : Result (Unit {0}) ClientStop) → IsSoundWish wish → Acts pass wish client before after end → Works pass wish client before after end
does_work pass (wishes.Sync account) client before after end sound acts = acts
does_work pass (wishes.Transfer info) client before after end sound acts = acts
does_work pass (wishes.Modify id to amount due) client before after end sound acts = acts
does_work pass (wishes.Cancel id) client before after end sound acts = acts
does_work pass (wishes.Repeat recur info) client before after end sound acts = acts
does_work pass (wishes.Stop id) client before after end sound acts = acts
does_work pass (wishes.Mail subject body) client before after end sound acts = acts
does_work pass (wishes.Check account) client before after end sound acts = absurd sound
does_work pass wishes.Show client before after end sound acts = absurd sound
