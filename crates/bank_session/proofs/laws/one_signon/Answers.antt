use Rattle.bank_session.proofs.LineLemmas.{signed_on_once}
use Rattle.bank_session.proofs.laws.one_signon.Goals as goal

pub returns : goal.returns
returns c = signed_on_once c.one_file.ensures
