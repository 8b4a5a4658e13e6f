use Rattle.postgres_messages.proofs.MessageLaws.{read_again}
use Rattle.postgres_messages.proofs.laws.messages_read_back.Goals as goal

pub returns : goal.returns
returns c = read_again
