use Rattle.bank_ledger.proofs.draft.Draft.row.Goals as goal

pub row-requires : goal.row-requires
row-requires c = record { rows = c.self.invariant.0.rows_added.rows c.args.id }
