use Rattle.bank_invariants.proofs.DoneLemmas.{dropping}
use Rattle.bank_deeds.proofs.PendingSteps.{IsSoFar}
use Rattle.bank_deeds.proofs.pending.drop_pending.Given as goal

abbrev pub invariant-loop-id : goal.invariant-loop-id
invariant-loop-id l = IsSoFar l.fn.draft.setup l.fn.draft l.draft dropping l.ids l.id-index
