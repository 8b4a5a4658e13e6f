use Rattle.event_codec.proofs.EventLaws.{one_reopening}
use Rattle.event_codec.proofs.laws.one_reopening.Goals as goal

pub returns : goal.returns
returns c = one_reopening
