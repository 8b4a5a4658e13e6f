use Rattle.bank_shared.specs.Holds.{caller_of}
use Rattle.bank_shared.proofs.Since.{found_again, found_done, found_gone, found_refused}
use Rattle.bank_shared.proofs.bank.Bank.advance_once.Goals as goal

pub returns-in-Err-commit_until_held-clause-refused : goal.returns-in-Err-commit_until_held-clause-refused
returns-in-Err-commit_until_held-clause-refused g c =
    found_refused g.N.BankName.setup c.args.at c.in-Ok-Some.event c.in-Err-commit_until_held.fault (caller_of g.N.BankName.opening c.args.pass.now) (caller_of g.N.BankName.opening c.look.new.pass) (caller_of g.N.BankName.opening c.commit_until_held.new.pass)
    (rw c.in-Ok-Some.field-0-is at c.in-Ok-Some.ensures.found).0 c.in-Err-commit_until_held.ensures.refused

pub returns-in-Ok-Done-clause-advanced : goal.returns-in-Ok-Done-clause-advanced
returns-in-Ok-Done-clause-advanced g c =
    let done = rw c.in-Ok-Done.field-0-is at c.in-Ok-Done.ensures.tried in
    found_done g.N.BankName.setup c.args.at c.in-Ok-Some.event done.0 (caller_of g.N.BankName.opening c.args.pass.now) (caller_of g.N.BankName.opening c.look.new.pass) (caller_of g.N.BankName.opening c.commit_until_held.new.pass) (rw c.in-Ok-Some.field-0-is at c.in-Ok-Some.ensures.found).0 done.1

pub returns-in-Ok-Gone-clause-advanced : goal.returns-in-Ok-Gone-clause-advanced
returns-in-Ok-Gone-clause-advanced g c =
    found_gone g.N.BankName.setup c.args.at c.in-Ok-Some.event (caller_of g.N.BankName.opening c.args.pass.now) (caller_of g.N.BankName.opening c.look.new.pass) (caller_of g.N.BankName.opening c.commit_until_held.new.pass) (rw c.in-Ok-Some.field-0-is at c.in-Ok-Some.ensures.found).0
    (rw c.in-Ok-Gone.field-0-is at c.in-Ok-Gone.ensures.tried)

pub returns-in-Ok-Moved-clause-advanced : goal.returns-in-Ok-Moved-clause-advanced
returns-in-Ok-Moved-clause-advanced g c =
    found_again g.N.BankName.setup c.args.at c.in-Ok-Some.event (caller_of g.N.BankName.opening c.args.pass.now) (caller_of g.N.BankName.opening c.look.new.pass) (caller_of g.N.BankName.opening c.commit_until_held.new.pass) (rw c.in-Ok-Some.field-0-is at c.in-Ok-Some.ensures.found).0
    (rw c.in-Ok-Moved.field-0-is at c.in-Ok-Moved.ensures.tried)
