use Rattle.std.specs.List.{flat_map}
use Rattle.bank_model.specs.Rules.{named_by}
use Rattle.bank_model.proofs.NamingLemmas.{rising_of, members_of}
use Rattle.bank_model.proofs.setup.Setup.named_by_file.Goals as goal

pub returns-clause-rising : goal.returns-clause-rising
returns-clause-rising c = rising_of c.in_ok-accounts.accounts.items (flat_map (named_by c.args.self.now) c.args.file.now.asks) (rw (← c.items.ensures) c.in_ok-accounts.ensures)

pub returns-clause-named : goal.returns-clause-named
returns-clause-named c = members_of c.in_ok-accounts.accounts.items (flat_map (named_by c.args.self.now) c.args.file.now.asks) (rw (← c.items.ensures) c.in_ok-accounts.ensures)
