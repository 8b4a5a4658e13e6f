use Rattle.token_board.proofs.Publishing.{nothing_published, entries_published, ending_published}
use Rattle.token_board.proofs.laws.endings_are_claimed.Goals as goal

pub returns-clause-nothing : goal.returns-clause-nothing
returns-clause-nothing c = nothing_published

pub returns-clause-entries : goal.returns-clause-entries
returns-clause-entries c = entries_published

pub returns-clause-ending : goal.returns-clause-ending
returns-clause-ending c = ending_published
