use Rattle.std.proofs.Common.{◌≡◌, ◌≤◌}
use Rattle.board_tests.proofs.two_threads.publish_all.Given as goal

-- the numbers before this one are published, on the same board
abbrev pub invariant-loop-number : goal.invariant-loop-number
invariant-loop-number g l = (l.scribe.last ≤ l.number) × (l.scribe.board.now ≡ l.board)
