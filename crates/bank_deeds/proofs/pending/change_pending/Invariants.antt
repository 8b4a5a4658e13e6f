use Rattle.bank_invariants.proofs.DoneLemmas.{with_new_terms}
use Rattle.bank_deeds.proofs.PendingSteps.{IsSoFar}
use Rattle.bank_deeds.proofs.pending.change_pending.Given as goal

abbrev pub invariant-loop-id : goal.invariant-loop-id
invariant-loop-id l = IsSoFar l.fn.draft.setup l.fn.draft l.draft (with_new_terms l.info) l.ids l.id-index
