use Rattle.std.specs.Option.{option_copied}
use Rattle.bank_model.specs.Rules.{named_by_row}
use Rattle.bank_model.proofs.NamingLemmas.{rising_of, members_of}
use Rattle.bank_model.proofs.setup.Setup.named_by_row.Goals as goal

pub returns-clause-rising : goal.returns-clause-rising
returns-clause-rising c = rising_of c.in_ok-accounts.accounts.items (named_by_row c.args.self.now (option_copied c.args.row)) c.in_ok-accounts.ensures

pub returns-clause-named : goal.returns-clause-named
returns-clause-named c = members_of c.in_ok-accounts.accounts.items (named_by_row c.args.self.now (option_copied c.args.row)) c.in_ok-accounts.ensures
