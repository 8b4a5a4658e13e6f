use Rattle.httparse.proofs.GrammarLemmas.{ReadsRequest-append, ReadsResponse-append}
use Rattle.http_front.proofs.laws.heads_stay.Goals as goal

pub returns-clause-requests : goal.returns-clause-requests
returns-clause-requests c bytes more h rest at = (ReadsRequest-append bytes h rest more at.0, at.1)

pub returns-clause-responses : goal.returns-clause-responses
returns-clause-responses c bytes more h rest at = (ReadsResponse-append bytes h rest more at.0, at.1)
