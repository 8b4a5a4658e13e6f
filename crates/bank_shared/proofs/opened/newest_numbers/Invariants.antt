use Rattle.bank_shared.proofs.Starting.{AreSoFar}
use Rattle.bank_shared.proofs.opened.newest_numbers.Given as goal

-- the objects so far have their numbers
abbrev pub invariant-loop-object : goal.invariant-loop-object
invariant-loop-object g l = AreSoFar l.book.state.entries l.numbers.items l.object
