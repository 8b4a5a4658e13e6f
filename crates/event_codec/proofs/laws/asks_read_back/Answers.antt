use Rattle.event_codec.proofs.SyncLaws.{plain_object_field}
use Rattle.event_codec.proofs.AskLaws.{asks_field}
use Rattle.event_codec.proofs.laws.asks_read_back.Goals as goal

pub returns : goal.returns
returns c = record { object = plain_object_field; asks = asks_field }
