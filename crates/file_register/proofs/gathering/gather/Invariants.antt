use Rattle.std.proofs.Common.{take}
use Rattle.file_register.specs.Gathering.{Gathered}
use Rattle.file_register.proofs.gathering.gather.Given as goal

abbrev pub invariant-loop-line : goal.invariant-loop-line
invariant-loop-line l = Gathered l.old (take l.line-index l.lines) l.fresh.keys
