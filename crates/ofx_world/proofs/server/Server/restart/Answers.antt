use Rattle.std.proofs.Common.{◌≡◌, inr, Bool, Option, ap, ◌∙◌}
use Rattle.ofx_world.proofs.Serving.{faulted, on_refusal, restarted, unopened}
use Rattle.ofx_world.proofs.server.Server.restart.Goals as goal

pub returns-in_err-self-inside-in-Ok-clause-refused : goal.returns-in_err-self-inside-in-Ok-clause-refused
returns-in_err-self-inside-in-Ok-clause-refused c =
    on_refusal c.from_residual-in_err-self-inside-in-Ok.result _
    (inr (unopened _ _ c.self.inside.keeper c.self.inside.engine.pending c.settle.new.self c.self.view_is c.settle.ensures.pending c.self.invariant
    c.reopen-opened.new.keeper c.set_fault.new.self
    (c.set_fault.ensures ∙ ap (λ (fault : Option Bool). faulted c.reopen-opened.new.keeper fault) c.fault-fault.ensures)
    c.reopen-opened.ensures.settled c.reopen-opened.ensures.list
    ∙ c.settle.ensures.settled))

pub returns-in_ok-self-inside-in-Ok-clause-restarted : goal.returns-in_ok-self-inside-in-Ok-clause-restarted
returns-in_ok-self-inside-in-Ok-clause-restarted c =
    let engine = c.in_ok-self-inside-in-Ok.field-0 in
    restarted _ _ c.self.inside.keeper c.self.inside.engine.pending c.settle.new.self c.self.view_is c.settle.ensures.pending c.self.invariant
    c.reopen-opened.new.keeper c.set_fault.new.self
    (c.set_fault.ensures ∙ ap (λ (fault : Option Bool). faulted c.reopen-opened.new.keeper fault) c.fault-fault.ensures)
    c.reopen-opened.ensures.settled c.reopen-opened.ensures.list
    c.args.self.now c.in_ok-setup.setup engine.setup c.in-Ok.book.state engine.state engine.pending c.in_ok-self-inside-in-Ok.ensures.pending
    c.settle.ensures.settled (c.in_ok-setup.ensures ∙ c.setup.ensures.setup)
    (c.in_ok-self-inside-in-Ok.ensures.setup ∙ c.in-Ok.ensures.setup) c.in_ok-self-inside-in-Ok.ensures.state c.in-Ok.ensures.holds
