use Rattle.bank_shared.specs.Holds.{IsPassOf, caller_of}
use Rattle.bank_shared.proofs.Since.{HasLooked}
use Rattle.bank_shared.proofs.bank.Bank.advance_until_sure.Given as goal

-- more may have been seen, and nothing is the caller's own
abbrev pub invariant-loop : goal.invariant-loop
invariant-loop g l = record {
  finite : (goal.iterator-loop g).can_next l.iterator' × (goal.iterator-loop g).is_finite l.iterator';
  looked : HasLooked (caller_of g.N.BankName.opening l.fn.pass) (caller_of g.N.BankName.opening l.pass);
  pass : IsPassOf g.N.BankName.setup g.N.BankName.opening g.N.BankName.board l.pass;
}
