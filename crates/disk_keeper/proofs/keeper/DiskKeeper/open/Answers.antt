-- What was found in the file is what the keeper has.
use Rattle.std.proofs.Common.{[], ◌∷◌, subst, arith}
use Rattle.disk_keeper.specs.Bounds.{FoundWithin}
use Rattle.disk_keeper.specs.Disk.{after, shown}
use Rattle.disk_keeper.specs.Reading.{IsFound}
use Rattle.disk_keeper.specs.declared.change.Change.TheVariants.{Sync}
use Rattle.disk_keeper.proofs.DiskLemmas.{reported_on}
use Rattle.disk_keeper.proofs.Keepings.{kept_found, settled_now, opens_by, opens_kept}
use Rattle.disk_keeper.proofs.keeper.DiskKeeper.open.Goals as goal

pub invariant_of-result : goal.invariant_of-result
invariant_of-result g c =
    let within = subst (FoundWithin (g.D.Disk.extent c.find_end.new.disk)) c.in-End.is c.in-Ok-find_end.ensures.within in record {
      within = within;
      last_within = omega (arith, within.offset, within.few);
      last_before = omega arith;
      next = tt;
      keeps = kept_found (g.D.Disk.history c.args.disk) (g.D.Disk.history c.sync.new.self) (g.D.Disk.history c.find_end.new.disk) c.in-End.end c.sync.ensures.quiet c.find_end.ensures.history
          c.in-Ok.ensures.synced (λ h is. subst (IsFound (shown h)) c.in-End.is (c.in-Ok-find_end.ensures.known h is));
    }

pub returns-in-End-clause-opens : goal.returns-in-End-clause-opens
returns-in-End-clause-opens g c =
    let keeps = kept_found (g.D.Disk.history c.args.disk) (g.D.Disk.history c.sync.new.self) (g.D.Disk.history c.find_end.new.disk) c.in-End.end c.sync.ensures.quiet c.find_end.ensures.history
    c.in-Ok.ensures.synced (λ h is. subst (IsFound (shown h)) c.in-End.is (c.in-Ok-find_end.ensures.known h is)) in
    opens_by g.D.Disk.history (g.D.Disk.history c.args.disk) _ (
    λ h is. opens_kept (g.D.Disk.history c.args.disk) (g.D.Disk.history c.sync.new.self) (g.D.Disk.history c.find_end.new.disk) h c.in-End.end is c.find_end.ensures.history c.in-Ok.ensures.synced keeps
    )

pub returns-in-End-clause-leaves : goal.returns-in-End-clause-leaves
returns-in-End-clause-leaves g c =
    settled_now (g.D.Disk.history c.find_end.new.disk) c.in-End.end _ (
    kept_found (g.D.Disk.history c.args.disk) (g.D.Disk.history c.sync.new.self) (g.D.Disk.history c.find_end.new.disk) c.in-End.end c.sync.ensures.quiet c.find_end.ensures.history
    c.in-Ok.ensures.synced (λ h is. subst (IsFound (shown h)) c.in-End.is (c.in-Ok-find_end.ensures.known h is))
    )

pub returns-in-NoMark-clause-opens : goal.returns-in-NoMark-clause-opens
returns-in-NoMark-clause-opens g c =
    opens_by g.D.Disk.history (g.D.Disk.history c.args.disk) _ (
    λ h is.
    subst (IsFound (shown h)) c.in-NoMark.is (
    c.in-Ok-find_end.ensures.known (after h (Sync ∷ [])) (reported_on (g.D.Disk.history c.args.disk) (g.D.Disk.history c.sync.new.self) h (Sync ∷ []) is c.in-Ok.ensures.synced)
    )
    )

pub returns-in-Past-clause-opens : goal.returns-in-Past-clause-opens
returns-in-Past-clause-opens g c =
    opens_by g.D.Disk.history (g.D.Disk.history c.args.disk) _ (
    λ h is.
    subst (IsFound (shown h)) c.in-Past.is (
    c.in-Ok-find_end.ensures.known (after h (Sync ∷ [])) (reported_on (g.D.Disk.history c.args.disk) (g.D.Disk.history c.sync.new.self) h (Sync ∷ []) is c.in-Ok.ensures.synced)
    )
    )
