use Rattle.std.proofs.Common.{sym, ap}
use Rattle.client_core.specs.Accepting.{accepted_unless}
use Rattle.client_core.proofs.Keeping.{refused_with}
use Rattle.client_core.proofs.accepting.accept_for.Goals as goal

pub returns-in-Some : goal.returns-in-Some
returns-in-Some c = refused_with _ _ (ap (accepted_unless c.args.client.now c.args.file.now c.args.reply.now) (sym c.in-Some.ensures))
