use Rattle.std.proofs.Common.{drop, rules}
use Rattle.token_board.proofs.Keeping.{splits_note}
use Rattle.token_board.proofs.writer.Writer.note.Goals as goal

pub split_seat-requires : goal.split_seat-requires
split_seat-requires c = (
  search rules,
  search rules,
  splits_note (drop 1 c.board.inside.table.shared.key.value) c.self.inside.seat.id c.self.inside.seat.me.0,
)
