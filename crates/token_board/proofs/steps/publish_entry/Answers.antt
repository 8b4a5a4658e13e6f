use Rattle.std.proofs.Common.{drop, arith}
use Rattle.token_board.proofs.Keeping.{any_step, publishes_effect}
use Rattle.token_board.proofs.steps.publish_entry.Goals as goal

pub store-requires : goal.store-requires
store-requires g c = (
  c.requires.own,
  (let size = c.requires.board.size in let within = c.requires.object in omega arith),
  publishes_effect (drop 1 c.args.words.now.key.value) c.args.words.now.table_id.slots c.args.seat.now.id c.args.seat.now.me c.args.entry.now g.E.Publication.item any_step c.requires.item c.requires.writer c.requires.object c.requires.above,
)
