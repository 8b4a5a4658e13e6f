use Rattle.postgres_messages.proofs.MessageLaws.{read_cut}
use Rattle.postgres_messages.proofs.laws.beginnings_are_cut.Goals as goal

pub returns : goal.returns
returns c = read_cut
