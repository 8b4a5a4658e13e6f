-- The faults of statement requests have offsets among the nodes.
use Rattle.std.proofs.Common.{ℕ, Option, None, Some, codes}
use Rattle.std.specs.Option.{IfSome}
use Rattle.ofx_types.specs.Nodes.{Item}
use Rattle.ofx_types.specs.FormWords.{one, maybe, flag_in, maybe_moment_in}
use Rattle.ofx_types.specs.RequestReading.{account_of, trnuid_of, period_of, period_in, statement_of}
use Rattle.ofx_tree.specs.Located.{Holds, Any, IsWithin}
use Rattle.ofx_tree.proofs.FormOffsets.{bound, one_within, maybe_within, flag_within, maybe_moment_within}
use Rattle.msg_parts.proofs.PartOffsets.{account_within, trnuid_within}

period_within : (most : ℕ) (item : Item) → IsWithin most item → Holds most Any (period_of item)
unfolding period_of
period_within most item h =
    bound most Any Any (maybe_moment_in (codes "DTSTART") item) _ (maybe_moment_within most (codes "DTSTART") item h) (λ start _.
    bound most Any Any (maybe_moment_in (codes "DTEND") item) _ (maybe_moment_within most (codes "DTEND") item h) (λ end _.
    bound most Any Any (flag_in (codes "INCLUDE") item) _ (flag_within most (codes "INCLUDE") item h) (λ include _. tt)))

maybe_period_within : (most : ℕ) (found : Option Item) → IfSome found (IsWithin most) → Holds most Any (period_in found)
maybe_period_within most None h = tt
maybe_period_within most (Some item) h = bound most Any Any (period_of item) _ (period_within most item h) (λ period _. tt)

pub statement_within : (most : ℕ) (item : Item) → IsWithin most item → Holds most Any (statement_of item)
unfolding statement_of
statement_within most item h =
    bound most Any Any (trnuid_of item) _ (trnuid_within most item h) (λ trnuid _.
    bound most (IsWithin most) Any (one (codes "STMTRQ") item) _ (one_within most (codes "STMTRQ") item h) (λ stmtrq s.
    bound most (IsWithin most) Any (one (codes "BANKACCTFROM") stmtrq) _ (one_within most (codes "BANKACCTFROM") stmtrq s) (λ from f.
    bound most Any Any (account_of from) _ (account_within most from f) (λ account _.
    bound most (λ found. IfSome found (IsWithin most)) Any (maybe (codes "INCTRAN") stmtrq) _ (maybe_within most (codes "INCTRAN") stmtrq s) (λ inctran i.
    bound most Any Any (period_in inctran) _ (maybe_period_within most inctran i) (λ period _. tt))))))
