use Rattle.std.proofs.Common.{◌∙◌}
use Rattle.bank_shared.specs.Holds.{caller_of}
use Rattle.bank_shared.proofs.Holding.{lacked}
use Rattle.bank_shared.proofs.bank.Bank.submit_until_held.Goals as goal

pub submit_held-requires-clause-listed : goal.submit_held-requires-clause-listed
submit_held-requires-clause-listed g c state = rw c.deref.ensures.value (c.loop.invariant.listed state)

pub returns-in-Err-numbers_of_both-clause-refused : goal.returns-in-Err-numbers_of_both-clause-refused
returns-in-Err-numbers_of_both-clause-refused g c =
    lacked g.N.BankName.tables c.in-Ok-Lacks.more.items (caller_of g.N.BankName.opening c.args.pass.now) (caller_of g.N.BankName.opening c.loop.pass) (caller_of g.N.BankName.opening c.submit_held.new.pass) c.loop.invariant.same
    (rw c.in-Ok-Lacks.field-0-is at c.in-Ok-Lacks.ensures.submitted)

pub loop-preserved : goal.loop-preserved
loop-preserved g c =
    let lack = rw c.in-Ok-Lacks.field-0-is at c.in-Ok-Lacks.ensures.submitted in
    record {
      finite = (tt, tt);
      same = lack.same ∙ c.loop.invariant.same;
      pass = c.submit_held.ensures.pass;
      may = c.in-Ok.ensures.may;
      listed = λ state. c.in-Ok.ensures.listed _ (rw c.deref-in-Ok-Lacks.ensures.value (c.loop.invariant.listed state));
    }
