use Rattle.std.proofs.Common.{◌≡◌, ℕ, ◌++◌, filter, take}
use Rattle.bank_model.specs.Ledger.{row_of}
use Rattle.bank_invariants.specs.Pending.{waits_for, ids_new}
use Rattle.bank_ledger.specs.DraftView.{drafted}
use Rattle.bank_deeds.proofs.pending.waiting.Given as goal

-- those that wait among the first of the ids that waited before
abbrev pub invariant-loop-id : goal.invariant-loop-id
invariant-loop-id l = l.ids.items ≡ filter (λ (one : ℕ). waits_for l.model (row_of one (drafted l.draft).entries)) (take l.id-index l.id-items)

-- and after them those among the first that the draft made
abbrev pub invariant-loop-entry : goal.invariant-loop-entry
invariant-loop-entry l = l.ids.items ≡ l.initial.ids.items ++ filter (λ (one : ℕ). waits_for l.model (row_of one (drafted l.draft).entries)) (ids_new (take l.entry-index l.entry-items))
