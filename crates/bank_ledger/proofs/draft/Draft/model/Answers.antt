use Rattle.bank_ledger.proofs.draft.Draft.model.Goals as goal

pub model-requires : goal.model-requires
model-requires c = record { models = c.self.invariant.0.rows_added.models c.args.id }
