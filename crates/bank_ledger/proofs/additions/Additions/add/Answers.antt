use Rattle.bank_ledger.proofs.additions.Additions.add.Goals as goal

pub invariant_of-self : goal.invariant_of-self
invariant_of-self c =
    rw c.in_err-add_entry.ensures.entries_kept (c.in_err-add_entry.ensures.postings_kept c.self.inside.entries.items c.self.invariant)
