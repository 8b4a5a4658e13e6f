use Rattle.bank_model.specs.declared.log.LogItem.TheVariants.{Effect}
use Rattle.token_board.proofs.writer.Writer.publish_effect.Given as goal

abbrev pub ghosts-publish_entry : goal.ghosts-publish_entry
ghosts-publish_entry a = record { item = Effect a.entry.now }
