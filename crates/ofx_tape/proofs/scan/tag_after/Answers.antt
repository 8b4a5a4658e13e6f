use Rattle.ofx_tape.proofs.TagEnds.{start_unfinished, start_broken, nothing_unfinished}
use Rattle.ofx_tape.proofs.scan.tag_after.Goals as goal

pub returns-in_default : goal.returns-in_default
returns-in_default c = nothing_unfinished c.args.bytes.now c.in_default.len_below

pub returns-in-Unfinished : goal.returns-in-Unfinished
returns-in-Unfinished c = start_unfinished c.args.bytes.now c.in-Unfinished.ensures

pub returns-in-Broken : goal.returns-in-Broken
returns-in-Broken c = start_broken c.args.bytes.now c.if-first-eq47.false c.in-Broken.ensures
