use Rattle.std.proofs.Common.{◌≡◌, ◌++◌, map, take}
use Rattle.file_register.specs.Lines.{line_of}
use Rattle.file_register.proofs.import.push_listed.Given as goal

abbrev pub invariant-loop-line : goal.invariant-loop-line
invariant-loop-line l = l.out.items ≡ l.fn.out.items ++ map (line_of l.account) (take l.line-index l.listed)
