use Rattle.std.proofs.Common.{arith}
use Rattle.std.proofs.lemmas.Grind.{common_steps}
use Rattle.bank_model.proofs.SetupWords.{cut_at_offset}
use Rattle.bank_model.proofs.setup.words.cut_at.Goals as goal

pub returns-in-Some-clause-exact : goal.returns-in-Some-clause-exact
returns-in-Some-clause-exact c = grind (arith, common_steps, cut_at_offset c.args.mark c.args.bytes.now)

pub returns-in-None-clause-exact : goal.returns-in-None-clause-exact
returns-in-None-clause-exact c = grind (arith, common_steps, cut_at_offset c.args.mark c.args.bytes.now)
