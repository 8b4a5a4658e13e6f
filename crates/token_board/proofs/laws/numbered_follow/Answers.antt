use Rattle.token_board.proofs.Following.{follows}
use Rattle.token_board.proofs.laws.numbered_follow.Goals as goal

pub returns : goal.returns
returns c = follows
