use Rattle.std.proofs.Common.{ap, ◌∙◌}
use Rattle.disk_keeper.proofs.Keepings.{nothing_begun, kept_nothing, size_reported}
use Rattle.disk_keeper.proofs.keeper.DiskKeeperKeeper.len.Goals as goal

pub returns-clause-known : goal.returns-clause-known
returns-clause-known g c =
    let nothing = nothing_begun c.self.inside.begun (ap (λ s. s.unsettled) c.self.view_is ∙ c.requires) in
    rw (← c.self.view_is) (
    size_reported (g.D.Disk.history c.self.inside.disk) c.self.inside.end c.self.inside.last
    (kept_nothing (g.D.Disk.history c.self.inside.disk) c.self.inside.end c.self.inside.last c.self.inside.begun nothing c.self.invariant.keeps)
    )
