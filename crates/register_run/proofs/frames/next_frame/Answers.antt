use Rattle.std.proofs.KnownBytes.{Keeps-trans}
use Rattle.register_run.proofs.Faults.{counts_on}
use Rattle.register_run.proofs.FrameLaws.{no_end, line_ends_input}
use Rattle.register_run.proofs.frames.next_frame.Goals as goal

pub returns-in-Ok-LineFeed-clause-kept : goal.returns-in-Ok-LineFeed-clause-kept
returns-in-Ok-LineFeed-clause-kept g c = Keeps-trans _ _ _ c.in-Ok-LineFeed.ensures.kept c.read_after_line.ensures.kept

pub returns-in-Ok-LineFeed-clause-faults : goal.returns-in-Ok-LineFeed-clause-faults
returns-in-Ok-LineFeed-clause-faults g c = counts_on _ _ _ c.in-Ok-LineFeed.ensures.faults c.read_after_line.ensures.faults

pub returns-in-Ok-Input-clause-next : goal.returns-in-Ok-Input-clause-next
returns-in-Ok-Input-clause-next g c =
    let ends = rw c.in-Ok-Input.field-0-is at c.in-Ok-Input.ensures.ends in
    line_ends_input c.read_line.new.bytes.items (g.A.Source.left c.read_line.new.source) c.at_end.result ends.0 ends.1 (rw c.deref.ensures.value at c.at_end.ensures)

pub returns-in-Ok-Nowhere-clause-next : goal.returns-in-Ok-Nowhere-clause-next
returns-in-Ok-Nowhere-clause-next g c =
    let ends = rw c.in-Ok-Nowhere.field-0-is at c.in-Ok-Nowhere.ensures.ends in
    no_end c.read_line.new.bytes.items (g.A.Source.left c.read_line.new.source) ends.0 ends.1
