use Rattle.std.proofs.Common.{refl}
use Rattle.bank_session.proofs.RunLemmas.{frame_is_more}
use Rattle.bank_session.proofs.TurnLemmas.{frame_there}
use Rattle.bank_session.proofs.run.end_of_input.Goals as goal

pub returns-in-Ok-Frame-clause-end : goal.returns-in-Ok-Frame-clause-end
returns-in-Ok-Frame-clause-end g c =
    let next = rw c.in-Ok-Frame.field-0-is at c.in-Ok-Frame.ensures.next in
    (refl, c.in-Ok-Frame.ensures.kept, frame_is_more _ _ (frame_there _ c.in-Ok-Frame.field-0-0 next))
