use Rattle.http_front.proofs.StayLemmas.{bad_request, bad_response}
use Rattle.http_front.proofs.laws.bad_heads_stay.Goals as goal

pub returns-clause-requests : goal.returns-clause-requests
returns-clause-requests c = bad_request

pub returns-clause-responses : goal.returns-clause-responses
returns-clause-responses c = bad_response
