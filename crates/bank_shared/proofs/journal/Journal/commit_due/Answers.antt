use Rattle.std.proofs.lemmas.Bool.{iff_false}
use Rattle.bank_shared.proofs.Callers.{commits, no_longer_legal, sees_any, settled_alone, uncommitted, unsettled}
use Rattle.bank_shared.proofs.Meeting.{meets_twice}
use Rattle.bank_shared.proofs.journal.Journal.commit_due.Goals as goal

pub returns-in-Err-clause-refused : goal.returns-in-Err-clause-refused
returns-in-Err-clause-refused g c =
    unsettled g.N.BankName.setup g.N.BankName.opening g.N.BankName.board c.args.self.now c.settle_held-settled.new.self c.args.pass.now c.settle_held-settled.new.pass c.args.event.now c.args.at c.in-Err.fault
    c.tokens_are_the_banks.ensures.hold c.log_holds.ensures.begins c.settle_held-settled.ensures.pass c.in-Err.ensures.fails

pub returns-then-not-legal-clause-tried : goal.returns-then-not-legal-clause-tried
returns-then-not-legal-clause-tried g c =
    no_longer_legal g.N.BankName.setup g.N.BankName.opening g.N.BankName.board c.args.self.now c.settle_held-settled.new.self c.args.pass.now c.settle_held-settled.new.pass c.args.event.now c.args.at
    c.tokens_are_the_banks.ensures.hold c.log_holds.ensures.begins (rw c.in-Ok-None.field-0-is at c.in-Ok-None.ensures.met) (rw c.in-Ok-None.field-0-is at c.in-Ok-None.ensures.settled) c.log_holds.ensures.all.own c.log_holds.ensures.ends
    (iff_false c.legal.ensures c.if-not-legal.true)

pub returns-in-Err-unheld-clause-refused : goal.returns-in-Err-unheld-clause-refused
returns-in-Err-unheld-clause-refused g c =
    settled_alone g.N.BankName.opening g.N.BankName.board c.args.self.now c.settle_held-settled.new.self c.args.pass.now c.settle_held-settled.new.pass (rw c.in-Ok-None.field-0-is at c.in-Ok-None.ensures.met) (rw c.in-Ok-None.field-0-is at c.in-Ok-None.ensures.settled)

pub returns-in-Ok-Some-unheld-clause-tried : goal.returns-in-Ok-Some-unheld-clause-tried
returns-in-Ok-Some-unheld-clause-tried g c =
    sees_any g.N.BankName.setup g.N.BankName.opening g.N.BankName.board c.args.self.now c.settle_held-settled.new.self c.args.pass.now c.settle_held-settled.new.pass
    c.tokens_are_the_banks.ensures.hold c.log_holds.ensures.begins (rw c.in-Ok-None.field-0-is at c.in-Ok-None.ensures.met) (rw c.in-Ok-None.field-0-is at c.in-Ok-None.ensures.settled)

pub returns-in-Ok-clause-tried : goal.returns-in-Ok-clause-tried
returns-in-Ok-clause-tried g c = (
  c.in-Ok.field-0.items,
  commits g.N.BankName.setup g.N.BankName.opening g.N.BankName.board c.args.self.now c.settle_held-settled.new.self c.commit-committed.new.self c.args.pass.now c.commit-committed.new.pass c.args.event.now c.args.at c.in-Ok.field-0.items
      c.tokens_are_the_banks.ensures.hold c.log_holds.ensures.begins
      (meets_twice g.N.BankName.board c.args.self.now.log c.settle_held-settled.new.self.log c.commit-committed.new.self.log c.args.pass.now c.settle_held-settled.new.pass c.commit-committed.new.pass
      (rw c.in-Ok-None.field-0-is at c.in-Ok-None.ensures.met) c.commit-committed.ensures.pass)
      (rw c.in-Ok-None.field-0-is at c.in-Ok-None.ensures.settled) c.in-Ok.ensures.answers,
)

pub returns-clause-refused : goal.returns-clause-refused
returns-clause-refused g c =
    uncommitted g.N.BankName.setup g.N.BankName.opening g.N.BankName.board c.args.self.now c.settle_held-settled.new.self c.commit-committed.new.self c.args.pass.now c.commit-committed.new.pass c.args.event.now c.args.at c.in-Err-committed.fault
    c.tokens_are_the_banks.ensures.hold c.log_holds.ensures.begins
    (meets_twice g.N.BankName.board c.args.self.now.log c.settle_held-settled.new.self.log c.commit-committed.new.self.log c.args.pass.now c.settle_held-settled.new.pass c.commit-committed.new.pass
    (rw c.in-Ok-None.field-0-is at c.in-Ok-None.ensures.met) c.commit-committed.ensures.pass)
    (rw c.in-Ok-None.field-0-is at c.in-Ok-None.ensures.settled) c.in-Err-committed.ensures.fails
