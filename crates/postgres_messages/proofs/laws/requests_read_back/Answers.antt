use Rattle.postgres_messages.proofs.RequestLaws.{request_again}
use Rattle.postgres_messages.proofs.laws.requests_read_back.Goals as goal

pub returns : goal.returns
returns c = request_again
