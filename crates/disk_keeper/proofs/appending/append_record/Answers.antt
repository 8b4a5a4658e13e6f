-- What an append leaves at each of its exits.
use Rattle.std.proofs.Common.{sym, subst, arith}
use Rattle.disk_keeper.specs.Appending.{Appends}
use Rattle.disk_keeper.specs.declared.appending.Reached.TheVariants.{Acknowledged, Gate}
use Rattle.disk_keeper.proofs.Moments.{stopped_in_body, stopped_at_sync, stopped_at_gate, stopped_at_last, acknowledged}
use Rattle.disk_keeper.proofs.Gates.{within_file}
use Rattle.disk_keeper.proofs.appending.append_record.Goals as goal

pub returns-in_default-clause-known : goal.returns-in_default-clause-known
returns-in_default-clause-known g c h rs is file settled =
    stopped_in_body rs c.args.gate c.args.bytes.now h file settled _ (c.write_body.ensures.suffix h is)

pub returns-in_default-sync-clause-known : goal.returns-in_default-sync-clause-known
returns-in_default-sync-clause-known g c h rs is file settled =
    stopped_at_sync rs c.args.gate c.args.bytes.now h file settled _ _ (c.write_body.ensures.suffix h is) c.in_default-sync.ensures.refused

pub returns-in_default-write_at-clause-known : goal.returns-in_default-write_at-clause-known
returns-in_default-write_at-clause-known g c h rs is file settled =
    subst (λ next. Appends rs c.args.gate c.args.bytes.now (Gate next) h (g.D.Disk.history c.write_at.new.self)) (sym c.in-Ok.ensures.next.0) (
    stopped_at_gate rs c.args.gate c.args.bytes.now h file settled (omega (arith, c.in-Ok.ensures.next.0, c.in-Ok.ensures.next.2)) _ _
    (c.write_body.ensures.suffix h is) (c.in-Ok.ensures.written h is (within_file rs c.args.gate _ file)) c.in-Ok-sync.ensures.synced _ c.in_default-write_at.ensures.broken
    )

pub returns-in_default-sync-2-clause-known : goal.returns-in_default-sync-2-clause-known
returns-in_default-sync-2-clause-known g c h rs is file settled =
    subst (λ next. Appends rs c.args.gate c.args.bytes.now (Gate next) h (g.D.Disk.history c.sync-2.new.self)) (sym c.in-Ok.ensures.next.0) (
    stopped_at_last rs c.args.gate c.args.bytes.now h file settled (omega (arith, c.in-Ok.ensures.next.0, c.in-Ok.ensures.next.2)) _ _
    (c.write_body.ensures.suffix h is) (c.in-Ok.ensures.written h is (within_file rs c.args.gate _ file)) c.in-Ok-sync.ensures.synced _ _ c.in-Ok-write_at.ensures.written c.in_default-sync-2.ensures.refused
    )

pub returns-clause-known : goal.returns-clause-known
returns-clause-known g c h rs is file settled =
    subst (λ next. Appends rs c.args.gate c.args.bytes.now (Acknowledged next) h (g.D.Disk.history c.sync-2.new.self)) (sym c.in-Ok.ensures.next.0) (
    acknowledged rs c.args.gate c.args.bytes.now h file settled (omega (arith, c.in-Ok.ensures.next.0, c.in-Ok.ensures.next.2)) _ _
    (c.write_body.ensures.suffix h is) (c.in-Ok.ensures.written h is (within_file rs c.args.gate _ file)) c.in-Ok-sync.ensures.synced _ _ c.in-Ok-write_at.ensures.written c.in-Ok-sync-2.ensures.synced
    )
