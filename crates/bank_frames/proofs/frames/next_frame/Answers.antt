use Rattle.bank_frames.proofs.NextFrame.{no_frame_ahead}
use Rattle.bank_frames.proofs.frames.next_frame.Goals as goal

pub returns-in-NoFrame-clause-next : goal.returns-in-NoFrame-clause-next
returns-in-NoFrame-clause-next g c =
    let shown = rw c.bytes.ensures.bytes at c.in-NoFrame.ensures in
    no_frame_ahead c.loop-frame.ahead (g.S.Source.left c.loop-frame.source) shown.0 shown.1
