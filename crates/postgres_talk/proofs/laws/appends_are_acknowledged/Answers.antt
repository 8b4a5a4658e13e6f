use Rattle.postgres_talk.proofs.Appends.{acknowledges, acknowledged}
use Rattle.postgres_talk.proofs.laws.appends_are_acknowledged.Goals as goal

pub returns : goal.returns
returns c = λ count ms. (acknowledges count ms, acknowledged count ms)
