use Rattle.bank_session.proofs.LineLemmas.{same_line}
use Rattle.bank_session.proofs.laws.one_line.Goals as goal

pub returns : goal.returns
returns c = same_line c.exact_lines.ensures.answered c.exact_lines.ensures.polled c.exact_lines.ensures.denied c.exact_lines.ensures.refused c.one_due_run.ensures
