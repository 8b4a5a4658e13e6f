-- The first so many changes, the oldest first, are the last ones, the newest first.
use Rattle.std.proofs.Common.{◌≡◌, ◌≤◌, List, ℕ, subst, ap, arith, length, take}
use Rattle.std.specs.Prelude.{reverse}
use Rattle.std.proofs.lemmas.List.{length-reverse}
use Rattle.disk_keeper.specs.Disk.{MayLeave}
use Rattle.disk_keeper.specs.Memory.{crashed}
use Rattle.disk_keeper.proofs.CrashLemmas.{reverse_take}
use Rattle.disk_keeper.proofs.memory.MemDisk.crash_image.Goals as goal

pub returns-clause-may : goal.returns-clause-may
returns-clause-may c =
    let changes = c.self.inside.changes.items in
    let crash = c.in_ok-crash_of.field-0.items in
    let within : c.args.moment ≤ length changes = omega (arith, c.requires, ap (λ s. length s.changes) c.self.view_is, length-reverse changes) in
    rw (← c.self.view_is) (
    subst (λ l. MayLeave c.self.inside.found.items l crash) (reverse_take changes c.args.moment within) (
    subst (λ f. MayLeave f (reverse (take c.args.moment changes)) crash) c.deref-2.ensures.value (
    subst (λ l. MayLeave c.deref-2.result.now (reverse (take c.args.moment l)) crash) c.deref.ensures.value c.in_ok-crash_of.ensures.may
    )
    )
    )

pub returns-clause-chosen : goal.returns-clause-chosen
returns-clause-chosen c =
    let changes = c.self.inside.changes.items in
    let crash = c.in_ok-crash_of.field-0.items in
    let choice = c.args.choice in
    let within : c.args.moment ≤ length changes = omega (arith, c.requires, ap (λ s. length s.changes) c.self.view_is, length-reverse changes) in
    rw (← c.self.view_is) (
    subst (λ l. crash ≡ (crashed choice c.self.inside.found.items l).0) (reverse_take changes c.args.moment within) (
    subst (λ f. crash ≡ (crashed choice f (reverse (take c.args.moment changes))).0) c.deref-2.ensures.value (
    subst (λ l. crash ≡ (crashed choice c.deref-2.result.now (reverse (take c.args.moment l))).0) c.deref.ensures.value c.in_ok-crash_of.ensures.chosen
    )
    )
    )
