use Rattle.ofx_tape.proofs.Unambiguous.{tags_are_unambiguous}
use Rattle.ofx_tape.proofs.laws.tags_are_unambiguous.Goals as goal

pub returns : goal.returns
returns c = tags_are_unambiguous
