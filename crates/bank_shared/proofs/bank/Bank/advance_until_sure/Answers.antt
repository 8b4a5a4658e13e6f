use Rattle.bank_shared.specs.Holds.{caller_of}
use Rattle.bank_shared.proofs.Since.{advanced_from, looked_again, unadvanced_from}
use Rattle.bank_shared.proofs.bank.Bank.advance_until_sure.Goals as goal

pub returns-in-Err-clause-refused : goal.returns-in-Err-clause-refused
returns-in-Err-clause-refused g c =
    unadvanced_from g.N.BankName.setup c.args.at c.in-Err.fault (caller_of g.N.BankName.opening c.args.pass.now) (caller_of g.N.BankName.opening c.loop.pass) (caller_of g.N.BankName.opening c.advance_once.new.pass) c.loop.invariant.looked c.in-Err.ensures.refused

pub returns-in-Ok-Some-clause-advanced : goal.returns-in-Ok-Some-clause-advanced
returns-in-Ok-Some-clause-advanced g c =
    advanced_from g.N.BankName.setup c.args.at c.in-Ok-Some.advance (caller_of g.N.BankName.opening c.args.pass.now) (caller_of g.N.BankName.opening c.loop.pass) (caller_of g.N.BankName.opening c.advance_once.new.pass) c.loop.invariant.looked
    (rw c.in-Ok-Some.field-0-is at c.in-Ok-Some.ensures.advanced)

pub loop-preserved : goal.loop-preserved
loop-preserved g c = record {
  finite = (tt, tt);
  looked = looked_again (caller_of g.N.BankName.opening c.args.pass.now) (caller_of g.N.BankName.opening c.loop.pass) (caller_of g.N.BankName.opening c.advance_once.new.pass) c.loop.invariant.looked (rw c.in-Ok-None.field-0-is at c.in-Ok-None.ensures.advanced);
  pass = c.advance_once.ensures.pass;
}
