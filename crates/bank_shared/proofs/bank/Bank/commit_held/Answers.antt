use Rattle.bank_turns.proofs.TurnLemmas.{same_turns}
use Rattle.bank_shared.proofs.bank.Bank.commit_held.Goals as goal

pub give_all-requires-clause-turns : goal.give_all-requires-clause-turns
give_all-requires-clause-turns g c = same_turns c.self.inside.row.row c.in-Ok.held c.commit_due-tried.new.held c.in-Ok.turns c.in-Ok.ensures.turns c.commit_due-tried.ensures.numbers
