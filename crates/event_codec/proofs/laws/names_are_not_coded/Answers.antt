use Rattle.event_codec.proofs.EventLaws.{kept_coded}
use Rattle.event_codec.proofs.laws.names_are_not_coded.Goals as goal

pub returns : goal.returns
returns c = kept_coded
