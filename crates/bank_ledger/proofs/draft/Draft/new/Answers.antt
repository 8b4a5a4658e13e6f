use Rattle.bank_ledger.proofs.EnteringLemmas.{IsDraft-none}
use Rattle.bank_ledger.proofs.draft.Draft.new.Goals as goal

pub invariant_of-result : goal.invariant_of-result
invariant_of-result c =
    rw c.new.ensures (IsDraft-none c.args.setup.now c.args.ledger.now.state c.args.held.now c.args.user c.args.at c.args.day c.requires.within c.requires.sound c.requires.balanced c.requires.moment c.requires.day, c.requires.window)
