use Rattle.ofx_tape.proofs.Totality.{faultless_is_spelled}
use Rattle.ofx_tape.proofs.laws.faultless_tags_are_spelled.Goals as goal

pub returns : goal.returns
returns c = faultless_is_spelled
