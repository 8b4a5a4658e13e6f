use Rattle.std.proofs.Common.{drop}
use Rattle.token_board.proofs.board.Board.newest.Given as goal

abbrev pub ghosts-load_token : goal.ghosts-load_token
ghosts-load_token a = record { start = drop 1 a.words.now.key.value; object = a.object }

abbrev pub ghosts-miss_token : goal.ghosts-miss_token
ghosts-miss_token a = record { start = drop 1 a.words.now.key.value; object = a.object }
