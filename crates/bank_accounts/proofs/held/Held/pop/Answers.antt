use Rattle.std.proofs.Common.{subst}
use Rattle.std.specs.Option.{option_to_list}
use Rattle.bank_accounts.proofs.HeldLemmas.{NumbersRise-prefix}
use Rattle.bank_accounts.specs.HeldAccounts.{NumbersRise}
use Rattle.bank_accounts.proofs.held.Held.pop.Goals as goal

pub invariant_of-self : goal.invariant_of-self
invariant_of-self c =
    NumbersRise-prefix c.pop.new.self.items (option_to_list c.pop.result) (subst NumbersRise c.pop.ensures.items c.self.invariant)
