use Rattle.std.proofs.Common.{◌-◌, List, length, sym, subst, ap, ◌∙◌}
use Rattle.std.specs.List.{slice_get}
use Rattle.bank_transfers.specs.declared.waiting.DueTask.{DueTask}
use Rattle.bank_transfers.specs.Waiting.{WaitingView, AreListed}
use Rattle.bank_transfers.proofs.DueLemmas.{first_due, nothing_due}
use Rattle.bank_transfers.proofs.waiting.Waiting.first_due.Goals as goal

pub returns-in-Some : goal.returns-in-Some
returns-in-Some c rows are =
    c.due_by.ensures
    ∙ first_due c.args.self.now c.in-Some.task.now c.self.inside.tasks.items c.self.inside.made.items rows c.args.day (subst (λ (v : WaitingView). AreListed v.rows c.self.inside.tasks.items c.self.inside.made.items) c.self.view_is c.self.invariant.0) are
    (ap (λ (l : List DueTask). slice_get l (length l - 1)) (sym c.deref.ensures.value) ∙ sym c.in-Some.ensures.value)

pub returns-in-None : goal.returns-in-None
returns-in-None c rows are =
    nothing_due c.args.self.now c.self.inside.tasks.items c.self.inside.made.items rows c.args.day (subst (λ (v : WaitingView). AreListed v.rows c.self.inside.tasks.items c.self.inside.made.items) c.self.view_is c.self.invariant.0) are
    (ap (λ (l : List DueTask). slice_get l (length l - 1)) (sym c.deref.ensures.value) ∙ sym c.in-None.ensures.value)
