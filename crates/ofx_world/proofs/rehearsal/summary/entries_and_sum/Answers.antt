use Rattle.std.proofs.Common.{◌≡◌, List, length, ap, subst, ◌∙◌}
use Rattle.std.specs.Prelude.{ℤ, IfOk}
use Rattle.bank_accounts.specs.AccountView.{AccountView}
use Rattle.bank_model.specs.declared.event.State.{State}
use Rattle.ofx_world.specs.Rehearsal.{sum_among}
use Rattle.ofx_world.proofs.Sums.{all_together}
use Rattle.ofx_world.proofs.rehearsal.summary.entries_and_sum.Goals as goal

pub returns-in-Ok-clause-entries : goal.returns-in-Ok-clause-entries
returns-in-Ok-clause-entries c =
    subst (λ (state : State). IfOk c.reported_of.result (λ reported. reported.0 ≡ length state.entries)) c.in-Ok.ensures.state c.reported_of.ensures.entries

pub returns-in-Ok-clause-sum : goal.returns-in-Ok-clause-sum
returns-in-Ok-clause-sum c =
    subst (λ (sum : ℤ). IfOk c.reported_of.result (λ reported. reported.1.0 ≡ sum))
    (ap (λ (accounts : List AccountView). sum_among accounts) c.deref.ensures.value
    ∙ all_together c.args.world.server.setup c.args.world.server.state c.in-Ok.accounts.items c.in-Ok.ensures.accounts)
    c.reported_of.ensures.sum
