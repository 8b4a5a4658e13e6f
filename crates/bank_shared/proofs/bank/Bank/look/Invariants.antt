use Rattle.std.proofs.Common.{◌≡◌}
use Rattle.bank_turns.specs.Taking.{MayBeTaken}
use Rattle.bank_shared.specs.Holds.{IsPassOf, caller_of}
use Rattle.bank_shared.proofs.bank.Bank.look.Given as goal

-- nothing has happened
abbrev pub invariant-loop : goal.invariant-loop
invariant-loop g l = record {
  finite : (goal.iterator-loop g).can_next l.iterator' × (goal.iterator-loop g).is_finite l.iterator';
  same : caller_of g.N.BankName.opening l.pass ≡ caller_of g.N.BankName.opening l.fn.pass;
  pass : IsPassOf g.N.BankName.setup g.N.BankName.opening g.N.BankName.board l.pass;
  may : MayBeTaken g.N.BankName.tables l.numbers.items;
}
