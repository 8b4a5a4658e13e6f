use Rattle.std.proofs.Common.{◌≡◌}
use Rattle.board_tests.proofs.two_threads.look_often.Given as goal

-- the pass is the board's
abbrev pub invariant-loop : goal.invariant-loop
invariant-loop l = l.pass.table ≡ l.board.table
