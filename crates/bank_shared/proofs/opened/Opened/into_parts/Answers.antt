use Rattle.std.proofs.Common.{sym}
use Rattle.bank_shared.proofs.opened.Opened.into_parts.Goals as goal

pub returns-clause-holds : goal.returns-clause-holds
returns-clause-holds g c = rw (sym c.requires.setup, sym c.requires.opening, sym c.requires.first, sym c.self.view_is) c.self.invariant.3
