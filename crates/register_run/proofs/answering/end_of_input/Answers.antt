use Rattle.std.proofs.Common.{refl}
use Rattle.register_run.proofs.FrameLaws.{ends_here, none_comes, rest_there, frame_comes}
use Rattle.register_run.proofs.answering.end_of_input.Goals as goal

pub returns-in-Ok-End-clause-ends : goal.returns-in-Ok-End-clause-ends
returns-in-Ok-End-clause-ends g c =
    let next = rw c.in-Ok-End.field-0-is at c.in-Ok-End.ensures.next in
    (ends_here _ _ _ c.in-Ok-End.ensures.kept next.0, next.1)

pub returns-in-Ok-Frame-clause-ends : goal.returns-in-Ok-Frame-clause-ends
returns-in-Ok-Frame-clause-ends g c =
    let next = rw c.in-Ok-Frame.field-0-is at c.in-Ok-Frame.ensures.next in
    (refl, frame_comes _ _ _ _ c.in-Ok-Frame.ensures.kept next)

pub returns-in-Ok-NoFrame-clause-ends : goal.returns-in-Ok-NoFrame-clause-ends
returns-in-Ok-NoFrame-clause-ends g c =
    let next = rw c.in-Ok-NoFrame.field-0-is at c.in-Ok-NoFrame.ensures.next in
    (refl, rest_there _ (none_comes _ _ _ c.in-Ok-NoFrame.ensures.kept next))
