use Rattle.ofx_tape.proofs.ReaderLaws.{cut_here, no_tag_here}
use Rattle.ofx_tape.proofs.reader.Reader.read_tag.Goals as goal

pub returns-in-Unfinished : goal.returns-in-Unfinished
returns-in-Unfinished c =
    cut_here c.args.self.now c.args.rest.now c.args.suffix.now c.requires.read c.requires.at_tag c.in-Unfinished.ensures

pub returns-in-Broken : goal.returns-in-Broken
returns-in-Broken c =
    no_tag_here c.args.self.now c.args.rest.now c.args.suffix.now c.offset.result c.requires.read c.requires.at_tag c.in-Broken.ensures c.offset.ensures
