use Rattle.std.proofs.Common.{◌∙◌}
use Rattle.bank_model.proofs.SetupWords.{word_trimmed}
use Rattle.bank_model.proofs.setup.words.word_text.Goals as goal

pub returns-in-Ok : goal.returns-in-Ok
returns-in-Ok c = c.in-Ok.ensures.1 ∙ word_trimmed c.args.word.now c.requires
