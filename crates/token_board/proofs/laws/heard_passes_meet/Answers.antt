use Rattle.token_board.proofs.Publishing.{may_meet, heard_meets}
use Rattle.token_board.proofs.laws.heard_passes_meet.Goals as goal

pub returns-clause-may : goal.returns-clause-may
returns-clause-may c = may_meet

pub returns-clause-meets : goal.returns-clause-meets
returns-clause-meets c = heard_meets
