use Rattle.postgres_messages.proofs.MessageLaws.{read_holds}
use Rattle.postgres_messages.proofs.laws.messages_are_what_is_read.Goals as goal

pub returns : goal.returns
returns c = read_holds
