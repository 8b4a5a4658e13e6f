use Rattle.bank_shared.specs.Holds.{IsPassOf}
use Rattle.share_tests.proofs.script.reported_by.Given as goal

-- the pass is the bank's
abbrev pub invariant-loop-call : goal.invariant-loop-call
invariant-loop-call g l = IsPassOf g.N.BankName.setup g.N.BankName.opening g.N.BankName.board l.pass
