use Rattle.event_codec.proofs.EventLaws.{reopens_then, reopens_apart}
use Rattle.event_codec.proofs.laws.reopening_goes_on.Goals as goal

pub returns : goal.returns
returns c = λ setup before first second after. (reopens_apart setup before first second after, λ h. reopens_then setup before first second h.0 after h.1 h.2)
