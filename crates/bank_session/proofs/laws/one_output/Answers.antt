use Rattle.bank_session.proofs.LineLemmas.{same_output}
use Rattle.bank_session.proofs.laws.one_output.Goals as goal

pub returns : goal.returns
returns c = same_output c.one_line.ensures
