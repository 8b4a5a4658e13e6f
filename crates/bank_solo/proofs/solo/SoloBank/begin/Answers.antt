use Rattle.std.proofs.Common.{sym}
use Rattle.bank_solo.proofs.solo.SoloBank.begin.Goals as goal

pub new-requires-clause-accounts : goal.new-requires-clause-accounts
new-requires-clause-accounts g c = record { numbered = c.in_ok-book.ensures.accounts.numbered; own = sym c.in_ok-book.ensures.tables }
