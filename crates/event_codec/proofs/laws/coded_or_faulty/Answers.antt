use Rattle.event_codec.proofs.EventLaws.{coded_or_faulty}
use Rattle.event_codec.proofs.laws.coded_or_faulty.Goals as goal

pub returns : goal.returns
returns c = coded_or_faulty
