use Rattle.httparse.proofs.GrammarLemmas.{request_unique, response_unique}
use Rattle.http_front.proofs.laws.one_head.Goals as goal

pub returns-clause-requests : goal.returns-clause-requests
returns-clause-requests c bytes g h q r at too = request_unique bytes g h q r at.0 too.0

pub returns-clause-responses : goal.returns-clause-responses
returns-clause-responses c bytes g h q r at too = response_unique bytes g h q r at.0 too.0
