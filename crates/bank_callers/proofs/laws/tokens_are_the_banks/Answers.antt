use Rattle.bank_callers.proofs.Tokens.{are_counted, are_fresh, are_held}
use Rattle.bank_callers.proofs.laws.tokens_are_the_banks.Goals as goal

pub returns-clause-counted : goal.returns-clause-counted
returns-clause-counted c = are_counted

pub returns-clause-fresh : goal.returns-clause-fresh
returns-clause-fresh c = are_fresh

pub returns-clause-hold : goal.returns-clause-hold
returns-clause-hold c = are_held
