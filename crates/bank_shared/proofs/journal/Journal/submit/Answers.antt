use Rattle.bank_shared.proofs.Callers.{commits, uncommitted, unsettled}
use Rattle.bank_shared.proofs.Holding.{legal_here}
use Rattle.bank_shared.proofs.Meeting.{meets_twice}
use Rattle.bank_shared.proofs.journal.Journal.submit.Goals as goal

pub commit-committed-requires-clause-legal : goal.commit-committed-requires-clause-legal
commit-committed-requires-clause-legal g c =
    legal_here g.N.BankName.setup c.settle_held-settled.new.self.setup c.settle_held-settled.new.self.state c.args.at c.args.event.now c.log_holds.ensures.all.own c.requires.legal

pub returns-in-Err-clause-refused : goal.returns-in-Err-clause-refused
returns-in-Err-clause-refused g c =
    unsettled g.N.BankName.setup g.N.BankName.opening g.N.BankName.board c.args.self.now c.settle_held-settled.new.self c.args.pass.now c.settle_held-settled.new.pass c.args.event.now c.args.at c.in-Err.fault
    c.tokens_are_the_banks.ensures.hold c.log_holds.ensures.begins c.settle_held-settled.ensures.pass c.in-Err.ensures.fails

pub returns-in-Ok-clause-submitted : goal.returns-in-Ok-clause-submitted
returns-in-Ok-clause-submitted g c =
    commits g.N.BankName.setup g.N.BankName.opening g.N.BankName.board c.args.self.now c.settle_held-settled.new.self c.commit-committed.new.self c.args.pass.now c.commit-committed.new.pass c.args.event.now c.args.at c.in-Ok.reply.items
    c.tokens_are_the_banks.ensures.hold c.log_holds.ensures.begins
    (meets_twice g.N.BankName.board c.args.self.now.log c.settle_held-settled.new.self.log c.commit-committed.new.self.log c.args.pass.now c.settle_held-settled.new.pass c.commit-committed.new.pass
    (rw c.in-Ok-None.field-0-is at c.in-Ok-None.ensures.met) c.commit-committed.ensures.pass)
    (rw c.in-Ok-None.field-0-is at c.in-Ok-None.ensures.settled) c.in-Ok.ensures.answers

pub returns-in-Err-committed-clause-refused : goal.returns-in-Err-committed-clause-refused
returns-in-Err-committed-clause-refused g c =
    uncommitted g.N.BankName.setup g.N.BankName.opening g.N.BankName.board c.args.self.now c.settle_held-settled.new.self c.commit-committed.new.self c.args.pass.now c.commit-committed.new.pass c.args.event.now c.args.at c.in-Err-committed.fault
    c.tokens_are_the_banks.ensures.hold c.log_holds.ensures.begins
    (meets_twice g.N.BankName.board c.args.self.now.log c.settle_held-settled.new.self.log c.commit-committed.new.self.log c.args.pass.now c.settle_held-settled.new.pass c.commit-committed.new.pass
    (rw c.in-Ok-None.field-0-is at c.in-Ok-None.ensures.met) c.commit-committed.ensures.pass)
    (rw c.in-Ok-None.field-0-is at c.in-Ok-None.ensures.settled) c.in-Err-committed.ensures.fails
