use Rattle.std.proofs.Common.{None, Some}
use Rattle.bank_shared.proofs.Callers.{due_seen, found, idle, legal_at, nothing, settled_alone}
use Rattle.bank_shared.proofs.journal.Journal.look.Goals as goal

pub returns-in-Err-clause-refused : goal.returns-in-Err-clause-refused
returns-in-Err-clause-refused g c =
    idle g.N.BankName.setup g.N.BankName.opening g.N.BankName.board c.args.self.now c.settle_held-settled.new.self c.args.pass.now c.settle_held-settled.new.pass c.args.at c.in-Err.fault
    c.tokens_are_the_banks.ensures.hold c.log_holds.ensures.begins c.settle_held-settled.ensures.pass c.in-Err.ensures.fails

pub returns-in-None-clause-looked : goal.returns-in-None-clause-looked
returns-in-None-clause-looked g c =
    nothing g.N.BankName.setup g.N.BankName.opening g.N.BankName.board c.args.self.now c.settle_held-settled.new.self c.args.pass.now c.settle_held-settled.new.pass c.args.at
    c.tokens_are_the_banks.ensures.hold c.log_holds.ensures.begins (rw c.in-Ok-None.field-0-is at c.in-Ok-None.ensures.met) (rw c.in-Ok-None.field-0-is at c.in-Ok-None.ensures.settled) c.log_holds.ensures.all.own c.log_holds.ensures.ends
    (due_seen c.settle_held-settled.new.self.setup c.book.result.now.setup c.settle_held-settled.new.self.state c.book.result.now.state c.args.at c.due.result None
    c.book.ensures.setup c.book.ensures.state c.due.ensures.first c.in-None.is)

pub returns-in-Err-named-clause-refused : goal.returns-in-Err-named-clause-refused
returns-in-Err-named-clause-refused g c =
    settled_alone g.N.BankName.opening g.N.BankName.board c.args.self.now c.settle_held-settled.new.self c.args.pass.now c.settle_held-settled.new.pass (rw c.in-Ok-None.field-0-is at c.in-Ok-None.ensures.met) (rw c.in-Ok-None.field-0-is at c.in-Ok-None.ensures.settled)

pub returns-in-Ok-clause-looked : goal.returns-in-Ok-clause-looked
returns-in-Ok-clause-looked g c = (
  found g.N.BankName.setup g.N.BankName.opening g.N.BankName.board c.args.self.now c.settle_held-settled.new.self c.args.pass.now c.settle_held-settled.new.pass c.in-Some.event c.args.at
      c.tokens_are_the_banks.ensures.hold c.log_holds.ensures.begins (rw c.in-Ok-None.field-0-is at c.in-Ok-None.ensures.met) (rw c.in-Ok-None.field-0-is at c.in-Ok-None.ensures.settled) c.log_holds.ensures.all.own c.log_holds.ensures.ends
      (due_seen c.settle_held-settled.new.self.setup c.book.result.now.setup c.settle_held-settled.new.self.state c.book.result.now.state c.args.at c.due.result (Some c.in-Some.event)
      c.book.ensures.setup c.book.ensures.state c.due.ensures.first c.in-Some.is)
      (legal_at c.settle_held-settled.new.self.setup c.book.result.now.setup c.book.result.now.state c.settle_held-settled.new.self.state c.args.at c.in-Some.event
      c.book.ensures.setup c.book.ensures.state c.in-Some.ensures.legal),
  c.in-Ok.ensures.may,
)
