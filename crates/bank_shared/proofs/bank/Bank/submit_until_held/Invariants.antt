use Rattle.std.proofs.Common.{◌≡◌}
use Rattle.bank_model.specs.declared.event.State.{State}
use Rattle.bank_model.specs.Rules.{named}
use Rattle.bank_turns.specs.Taking.{MayBeTaken, AreListed}
use Rattle.bank_shared.specs.Holds.{IsPassOf, caller_of}
use Rattle.bank_shared.proofs.bank.Bank.submit_until_held.Given as goal

-- Nothing has happened, and the accounts that the event names are among those of the numbers.
abbrev pub invariant-loop : goal.invariant-loop
invariant-loop g l = record {
  finite : (goal.iterator-loop g).can_next l.iterator' × (goal.iterator-loop g).is_finite l.iterator';
  same : caller_of g.N.BankName.opening l.pass ≡ caller_of g.N.BankName.opening l.fn.pass;
  pass : IsPassOf g.N.BankName.setup g.N.BankName.opening g.N.BankName.board l.pass;
  may : MayBeTaken g.N.BankName.tables l.numbers.items;
  listed : (S : State) → AreListed l.numbers.items (named g.N.BankName.setup S l.event);
}
