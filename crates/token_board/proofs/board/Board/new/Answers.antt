use Rattle.std.proofs.Common.{drop, rules}
use Rattle.token_board.proofs.Keeping.{begins_as, splits_first}
use Rattle.token_board.proofs.board.Board.new.Goals as goal

pub of_words-requires : goal.of_words-requires
of_words-requires c = begins_as c.args.start.now c.items.result.now c.of-opening.result.value (search rules) (search rules)

pub split_seat-requires : goal.split_seat-requires
split_seat-requires c = (search rules, search rules, splits_first (drop 1 c.in_ok-table.table.shared.key.value) c.in_ok-table.seat.id c.in_ok-table.seat.me.0)
