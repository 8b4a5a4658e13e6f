use Rattle.std.proofs.Common.{rules}
use Rattle.bank_frames.proofs.Windows.{reads_more}
use Rattle.bank_frames.proofs.ahead.read_window.Goals as goal

pub returns-clause-more : goal.returns-clause-more
returns-clause-more g c =
    reads_more c.make_room-start.result.0 c.make_room-start.result.1 c.in_ok-count.count _ c.make_room-start.new.buffer c.read_after.new.buffer _ _
    c.make_room-start.ensures.ordered c.make_room-start.ensures.room (search rules) c.make_room-start.ensures.kept c.in_ok-count.ensures.kept c.in_ok-count.ensures.count
    c.in_ok-count.ensures.bytes.0 c.in_ok-count.ensures.bytes.1
