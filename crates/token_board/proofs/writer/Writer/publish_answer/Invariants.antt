use Rattle.token_board.specs.Views.{item_of}
use Rattle.token_board.proofs.writer.Writer.publish_answer.Given as goal

abbrev pub ghosts-publish_ending : goal.ghosts-publish_ending
ghosts-publish_ending a = record { item = item_of a.ending.now }
