use Rattle.std.proofs.Common.{refl, ap}
use Rattle.bank_model.specs.declared.event.Event.TheVariants.{File}
use Rattle.bank_shared.specs.Holds.{caller_of}
use Rattle.bank_shared.proofs.Callers.{committed_if, refused_if}
use Rattle.bank_shared.proofs.Meeting.{gains_stays}
use Rattle.bank_shared.proofs.bank.Bank.submit_file.Goals as goal

pub returns-in_default-clause-refused : goal.returns-in_default-clause-refused
returns-in_default-clause-refused g c = gains_stays g.N.BankName.opening c.args.pass.now c.args.pass.now refl

pub returns-in_default-numbers_in-clause-refused : goal.returns-in_default-numbers_in-clause-refused
returns-in_default-numbers_in-clause-refused g c = gains_stays g.N.BankName.opening c.args.pass.now c.args.pass.now refl

pub submit_until_held-requires-clause-legal : goal.submit_until_held-requires-clause-legal
submit_until_held-requires-clause-legal g c state = rw c.in-Ok.ensures (c.requires.known, c.requires.sound, c.requires.event)

pub submit_until_held-requires-clause-listed : goal.submit_until_held-requires-clause-listed
submit_until_held-requires-clause-listed g c state = rw c.in-Ok.ensures (c.in-Ok-numbers_in.ensures.listed c.args.user state)

pub returns-clause-answered : goal.returns-clause-answered
returns-clause-answered g c =
    committed_if (λ reply. reply.items) c.submit_until_held.result (File c.args.user c.in-Ok.own) c.args.user c.args.file.now c.args.at (caller_of g.N.BankName.opening c.args.pass.now) (caller_of g.N.BankName.opening c.submit_until_held.new.pass)
    (ap (File c.args.user) c.in-Ok.ensures) c.submit_until_held.ensures.answered

pub returns-clause-refused : goal.returns-clause-refused
returns-clause-refused g c =
    refused_if c.submit_until_held.result (File c.args.user c.in-Ok.own) c.args.user c.args.file.now c.args.at (caller_of g.N.BankName.opening c.args.pass.now) (caller_of g.N.BankName.opening c.submit_until_held.new.pass)
    (ap (File c.args.user) c.in-Ok.ensures) c.submit_until_held.ensures.refused
