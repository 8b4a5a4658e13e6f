-- What is reported of a run whose append failed.
use Rattle.std.proofs.Common.{◌≡◌, ◌≢◌, Result, Err, ap, ◌∙◌}
use Rattle.ofx_types.specs.declared.told.Told.{Told}
use Rattle.bank_opening.specs.Reports.{reported_of}
use Rattle.bank_opening.specs.declared.stop.Stop.{Stop}
use Rattle.bank_opening.specs.declared.stop.Stop.TheVariants as stops

-- nothing is to be settled where another status is reported
pub settled_reported : (end : Result (Unit {0}) Stop) (what : Told) (settled : Type 0) → what ≡ reported_of end → (end ≢ Err stops.KeeperFailed → settled) → what.status.0 ≢ 8 → settled
settled_reported end what settled e suffix ne = suffix (λ failed. ne (ap (λ (t : Told). t.status.0) (e ∙ ap reported_of failed)))
