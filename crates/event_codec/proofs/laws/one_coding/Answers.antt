use Rattle.event_codec.proofs.EventLaws.{one_coding}
use Rattle.event_codec.proofs.laws.one_coding.Goals as goal

pub returns : goal.returns
returns c = one_coding
