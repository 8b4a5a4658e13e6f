-- A new file has its mark and a gate that is shut.
use Rattle.std.proofs.Common.{◌∙◌, arith}
use Rattle.disk_keeper.proofs.DiskLemmas.{reports_on}
use Rattle.disk_keeper.proofs.Keepings.{kept_made, lists_none, leaves_none}
use Rattle.disk_keeper.proofs.keeper.DiskKeeper.make.Goals as goal

pub invariant_of-result : goal.invariant_of-result
invariant_of-result g c =
    let size = c.sync.ensures.extent ∙ c.in-Ok.ensures.extent in record {
      within = record { offset = omega (arith, size); most = omega arith; few = omega arith };
      last_within = omega (arith, size);
      last_before = omega arith;
      next = tt;
      keeps = kept_made (g.D.Disk.history c.args.disk) (g.D.Disk.history c.write_at.new.self) (g.D.Disk.history c.sync.new.self) c.write_at.ensures.quiet c.sync.ensures.quiet c.in-Ok.ensures.written
          c.in-Ok-sync.ensures.synced;
    }

pub returns-clause-opens : goal.returns-clause-opens
returns-clause-opens g c =
    lists_none (g.D.Disk.history c.sync.new.self) (
    kept_made (g.D.Disk.history c.args.disk) (g.D.Disk.history c.write_at.new.self) (g.D.Disk.history c.sync.new.self) c.write_at.ensures.quiet c.sync.ensures.quiet c.in-Ok.ensures.written
    c.in-Ok-sync.ensures.synced
    )

pub returns-clause-leaves : goal.returns-clause-leaves
returns-clause-leaves g c =
    leaves_none (g.D.Disk.history c.sync.new.self) (
    kept_made (g.D.Disk.history c.args.disk) (g.D.Disk.history c.write_at.new.self) (g.D.Disk.history c.sync.new.self) c.write_at.ensures.quiet c.sync.ensures.quiet c.in-Ok.ensures.written
    c.in-Ok-sync.ensures.synced
    )

pub returns-clause-reports : goal.returns-clause-reports
returns-clause-reports g c =
    reports_on (g.D.Disk.history c.args.disk) (g.D.Disk.history c.write_at.new.self) (g.D.Disk.history c.sync.new.self) _ _ c.in-Ok.ensures.written c.in-Ok-sync.ensures.synced
