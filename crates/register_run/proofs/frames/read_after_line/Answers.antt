use Rattle.std.proofs.KnownBytes.{Keeps-refl}
use Rattle.register_run.proofs.FrameLaws.{no_head}
use Rattle.register_run.proofs.frames.read_after_line.Goals as goal

pub returns-in-None-clause-kept : goal.returns-in-None-clause-kept
returns-in-None-clause-kept g c = Keeps-refl _

pub returns-in-None-clause-next : goal.returns-in-None-clause-next
returns-in-None-clause-next g c = no_head c.args.bytes.now.items (g.A.Source.left c.args.source.now) c.requires (rw c.deref.ensures.value at c.in-None.ensures.none)
