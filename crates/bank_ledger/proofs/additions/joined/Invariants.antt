use Rattle.std.proofs.Common.{◌≡◌, ◌++◌, take}
use Rattle.bank_ledger.proofs.additions.joined.Given as goal

abbrev pub invariant-loop-line : goal.invariant-loop-line
invariant-loop-line l = l.all ≡ l.fn.lines ++ take l.line-index l.line-items
