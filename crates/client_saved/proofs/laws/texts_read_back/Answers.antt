use Rattle.std.proofs.Common.{refl}
use Rattle.client_saved.specs.Coding.{state_text}
use Rattle.client_saved.proofs.StateLaws.{saved_is_read}
use Rattle.client_saved.proofs.laws.texts_read_back.Goals as goal

pub returns : goal.returns
returns c = λ state sound counted. saved_is_read (state_text state) state (record { sound = sound; counted = counted; spelled = refl })
