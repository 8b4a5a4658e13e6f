use Rattle.std.proofs.Common.{drop, arith}
use Rattle.token_board.proofs.Keeping.{any_step, publishes_ending}
use Rattle.token_board.proofs.steps.publish_ending.Goals as goal

pub store-requires : goal.store-requires
store-requires g c = (
  c.requires.own,
  (let size = c.requires.board.size in omega arith),
  publishes_ending (drop 1 c.args.words.now.key.value) c.args.words.now.table_id.slots c.args.seat.now.id c.args.seat.now.me c.args.ending.now c.args.count g.E.Publication.item any_step c.requires.item c.requires.writer c.requires.count,
)
