use Rattle.postgres_talk.proofs.SignOns.{opens}
use Rattle.postgres_talk.proofs.laws.sessions_are_proved.Goals as goal

pub returns : goal.returns
returns c = opens
