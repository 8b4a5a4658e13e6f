-- Any bytes at the start of the range are left by a torn write.
use Rattle.std.proofs.Common.{arith}
use Rattle.disk_keeper.proofs.DiskLemmas.{torn_overlaid}
use Rattle.disk_keeper.proofs.memory.crash.torn.Goals as goal

pub returns-clause-may : goal.returns-clause-may
returns-clause-may c =
    rw (c.in_ok-new.ensures, c.deref.ensures.value) (
    torn_overlaid c.args.old.now c.args.at c.args.size c.in_ok-prefix.prefix.items (omega (arith, c.if-at-old.false)) (omega (arith, c.in_ok-prefix.ensures.no_longer, c.first_bytes.ensures.no_more))
    )
