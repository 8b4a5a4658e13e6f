use Rattle.bank_ledger.proofs.draft.Draft.is_cancelled.Goals as goal

pub is_cancelled-requires : goal.is_cancelled-requires
is_cancelled-requires c = record { cancelled = c.self.invariant.0.rows_added.cancelled c.args.id }
