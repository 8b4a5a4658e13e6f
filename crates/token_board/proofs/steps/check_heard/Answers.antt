use Rattle.std.proofs.Common.{arith}
use Rattle.token_board.proofs.Keeping.{any_step, checks_heard_as}
use Rattle.token_board.proofs.steps.check_heard.Goals as goal

pub load-requires : goal.load-requires
load-requires g c = (
  c.requires.own,
  (let size = c.requires.board.size in omega arith),
  checks_heard_as g.Q.Question.start c.args.words.now.key.value c.args.words.now.table_id.slots c.args.seat.now.id c.args.seat.now.me any_step c.requires.start c.requires.writer,
)
