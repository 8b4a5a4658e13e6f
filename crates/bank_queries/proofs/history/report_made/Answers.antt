use Rattle.bank_queries.proofs.history.report_made.Goals as goal

pub returns-in-Transfer : goal.returns-in-Transfer
returns-in-Transfer c = rw (c.in-Transfer.is, ← c.row-found.ensures) c.report_transfer.ensures

pub returns-in-Model : goal.returns-in-Model
returns-in-Model c =
    rw (c.in-Model.is, ← c.is_cancelled-cancelled.ensures, ← c.model-found.ensures) c.report_model.ensures
