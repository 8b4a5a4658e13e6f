use Rattle.event_codec.proofs.EventLaws.{version_reported, version_is_reported}
use Rattle.event_codec.proofs.laws.versions_come_first.Goals as goal

pub returns : goal.returns
returns c = λ rec n. (version_reported rec n, version_is_reported rec n)
