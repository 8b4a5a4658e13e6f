use Rattle.std.proofs.Common.{[], refl}
use Rattle.bank_model.specs.declared.event.Event.TheVariants.{File}
use Rattle.serve_tests.proofs.connections.office.BookOfficeOffice.ask.Goals as goal

-- nothing of the log is told
pub returns-in-Ok-step-clause-answered : goal.returns-in-Ok-step-clause-answered
returns-in-Ok-step-clause-answered c = record { others = []; event = File c.args.user c.args.file.now; same = refl; knows = tt }
