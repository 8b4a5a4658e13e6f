use Rattle.bank_queries.proofs.HistoryLemmas.{newest-after}
use Rattle.bank_queries.proofs.history.newest.Goals as goal
use Rattle.std.proofs.Common.{ap, ◌∙◌}
use Rattle.bank_model.specs.declared.event.State.{State}
use Rattle.bank_model.specs.Objects as objects
use Rattle.bank_model.specs.Objects.{history_of, last_number_from}

pub returns : goal.returns
returns c =
    c.last_number.ensures
    ∙ ap (λ l. last_number_from c.newest-before.result (history_of c.args.object l)) c.entries.ensures
    ∙ newest-after c.args.object c.args.draft.now.before.entries c.args.draft.now.entries c.newest-before.result
    (c.newest-before.ensures ∙ ap (λ (S : State). objects.newest c.args.object S.entries) c.ledger.ensures.state)
