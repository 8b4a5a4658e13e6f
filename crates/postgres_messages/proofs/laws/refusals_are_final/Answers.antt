use Rattle.postgres_messages.proofs.MessageLaws.{read_more}
use Rattle.postgres_messages.proofs.laws.refusals_are_final.Goals as goal

pub returns : goal.returns
returns c = read_more
