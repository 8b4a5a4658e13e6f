use Rattle.std.proofs.Common.{arith}
use Rattle.token_board.proofs.Keeping.{any_step, loads_token_as}
use Rattle.token_board.proofs.steps.load_token.Goals as goal

pub load-requires : goal.load-requires
load-requires g c = (
  c.requires.own,
  (let size = c.requires.board.size in let within = c.requires.within in omega arith),
  loads_token_as g.Q.Question.start c.args.words.now.key.value g.Q.Question.object c.args.object c.args.words.now.table_id.slots c.args.seat.now.id c.args.seat.now.me any_step c.requires.start c.requires.asked c.requires.within,
)
