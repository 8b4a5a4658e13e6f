use Rattle.event_codec.proofs.EventLaws.{one_record_fault}
use Rattle.event_codec.proofs.laws.one_record_fault.Goals as goal

pub returns : goal.returns
returns c = one_record_fault
