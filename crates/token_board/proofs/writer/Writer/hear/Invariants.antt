use Rattle.std.proofs.Common.{drop}
use Rattle.token_board.proofs.writer.Writer.hear.Given as goal

abbrev pub ghosts-check_heard : goal.ghosts-check_heard
ghosts-check_heard a = record { start = drop 1 a.words.now.key.value; object = record { 0 = 0 } }
