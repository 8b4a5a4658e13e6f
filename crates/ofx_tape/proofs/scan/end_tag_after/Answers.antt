use Rattle.ofx_tape.proofs.TagEnds.{end_unfinished, end_broken}
use Rattle.ofx_tape.proofs.scan.end_tag_after.Goals as goal

pub returns-in-Unfinished : goal.returns-in-Unfinished
returns-in-Unfinished c = end_unfinished c.args.inside.now c.in-Unfinished.ensures

pub returns-in-Broken : goal.returns-in-Broken
returns-in-Broken c = end_broken c.args.inside.now c.in-Broken.ensures
